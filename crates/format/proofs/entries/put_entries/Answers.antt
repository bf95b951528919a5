use Rattle.std.proofs.Common.{◌≡◌, ℕ, ◌+◌, ◌*◌, ◌<◌, List, ◌++◌, length, get_or, take, sym, ap, ◌∙◌, ap₂, arith, rules}
use Rattle.std.proofs.lemmas.List.{take_more, take_all, get_or_read}
use Rattle.medium.specs.Meaning.{Bytes}
use Rattle.rules.specs.declared.trailer.Trailer.{Trailer}
use Rattle.rules.specs.Format.{encode, encode_all}
use Rattle.format.proofs.Loops.{all_more}
use Rattle.format.proofs.entries.put_entries.Goals as goal

-- One more entry, as a read of it gives it.
more : (es : List Trailer) (i : ℕ) (xs bs : Bytes) (t : Trailer) → i < length es → bs ≡ xs ++ encode t
    → t ≡ get_or es i t → xs ≡ encode_all (take i es) → bs ≡ encode_all (take (i + 1) es)
more es i xs bs t lt is read was =
    is
    ∙ ap₂ (λ ys u. ys ++ encode u) was read
    ∙ sym (ap encode_all (take_more es i t lt) ∙ all_more (take i es) (get_or es i t))

pub loop-i-preserved : goal.loop-i-preserved
loop-i-preserved c = (
  search rules,
  more c.args.entries.now c.loop-i.i _ _ _ (omega arith) c.put_entry.ensures
      (search (rules, get_or_read)) c.loop-i.invariant.1,
)

pub returns : goal.returns
returns c =
    sym (take_all (16 * c.loop-i.i) c.loop-i.into (omega arith))
    ∙ c.loop-i.invariant.1
    ∙ ap encode_all (take_all c.loop-i.i c.args.entries.now (omega arith))
