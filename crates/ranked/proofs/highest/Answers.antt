use Rattle.std.proofs.Common.{◌≡◌, ℕ, Option, map, sym, ap, ◌∙◌, subst, rules}
use Rattle.rules.specs.Ranks.{found, found_at}
use Rattle.ranked.specs.Best.{highest_place, Best}
use Rattle.ranked.proofs.Chain.{has, chain_found}
use Rattle.ranked.proofs.Order.{highest_best, best_within}
use Rattle.ranked.proofs.highest.Goals as goal

pub returns : goal.returns
returns g c =
    let m = g.R.Ranked in
    let page = c.args.page in
    let xs = c.args.records.now in
    let whole = c.reduce.ensures.runs in
    let kept = c.filter.ensures.runs whole.0 whole.0.seen whole.1 in
    let numbered = c.enumerate.ensures.runs kept.0 kept.0.seen kept.1 in
    let read = c.iter.ensures.runs numbered.1.0 numbered.1.0.seen in
    let all : map (λ b. b.now) (map (λ x. x.1) kept.0.items) ≡ xs =
    ap (map (λ b. b.now)) (sym numbered.1.2.0.1) ∙ read.4 (numbered.1.2.1 ∙ kept.2.0 ∙ whole.2) ∙ search rules in
    let is : c.map.result ≡ highest_place m.page m.rank page xs =
    search rules
    ∙ chain_found (λ b. b.now) m.page m.rank page whole.0 kept.0 _ _ numbered.0
    (kept.2.4 (has (λ b. b.now) m.page m.rank page) (λ x r f' k. search rules))
    (λ x y r f' k. search rules) c.reduce.result whole.3
    ∙ ap (λ ys. found_at (found m.page m.rank page 0 ys)) all in
    let best = subst (λ (r : Option ℕ). Best m.page m.rank page xs r) (sym is) (highest_best m.page m.rank page xs) in
    record { value = is; best = best; within = best_within m.page m.rank page xs c.map.result best }
