-- What a command does to a store, call by call, and what it replies.
use Rattle.std.specs.Prelude.{◌≡◌, ℕ, cond, [], ◌∷◌, Some, None, Ok, Err, Option, Result, nat_le, slice_index}
use Rattle.medium.specs.Meaning.{Bytes}
use Rattle.medium.specs.Outcome.{Gives}
use Rattle.medium.specs.declared.Medium.{Ghosts}
use Rattle.rules.specs.declared.fault.Fault.{Fault}
use Rattle.rules.specs.declared.fault.Refusal.TheVariants as refusal
use Rattle.rules.specs.declared.state.Mounted.{Mounted}
use Rattle.rules.specs.Book.{Book}
use Rattle.rules.specs.Promise.{Run}
use Rattle.rules.specs.Store.{Store, step, mount, checkpoint, power_cycle}
use Rattle.rules.specs.Store.{mounted, saved, cycled}
use Rattle.store.specs.View.{answered, view, InOrder, InRun}
use Rattle.store.specs.declared.store.Store.{Store as CodeStore}
use Rattle.store_use.specs.Visits.{Puts, Looks}
use Rattle.board.specs.declared.command.Command.{Command}
use Rattle.board.specs.declared.command.Command.TheVariants as command
use Rattle.board.specs.declared.command.Letter.{Letter}
use Rattle.board.specs.declared.command.Letter.TheVariants as letter
use Rattle.board.specs.declared.reply.Reply.{Reply}
use Rattle.board.specs.declared.reply.Reply.TheVariants as reply

-- An answer as a reply: in its own form, or as the refusal.
abbrev pub replied : {A : Type 0} → Letter → (A → Reply) → Result A Fault → Reply
replied l say (Ok a) = say a
replied l say (Err e) = reply.Refused l e.cause

-- The byte at an offset of a body that was read: an offset past it is refused as length.
abbrev pub got : ℕ → Bytes → ℕ → Reply
got o body v =
    cond (nat_le 240 o) (reply.Refused letter.Get refusal.Length) (reply.Got (slice_index body o) v)

-- Save: one byte is put.
abbrev pub Saves : ℕ → ℕ → ℕ → Store → Store → Reply → Type 0
Saves p o b x z r = (v : Result ℕ Fault) × Puts p o (b ∷ []) x z v × (r ≡ replied letter.Save reply.Saved v)

-- Get: the page is looked at.
abbrev pub Gets : ℕ → ℕ → Store → Store → Reply → Type 0
Gets p o x z r =
    (body : Bytes) × (v : Result ℕ Fault) × Looks p 240 body x z v × (r ≡ replied letter.Get (got o body) v)

abbrev pub Replies : Command → Store → Store → Reply → Type 0
Replies (command.Mount frames) x z r =
    (a : Result Mounted Fault) × Gives (step x (mount frames)) (answered mounted a) z
    × (r ≡ replied letter.Mount reply.Mounted a)
Replies (command.Save page offset byte) x z r = InRun x (Saves page offset byte x z r)
Replies (command.Get page offset) x z r = Gets page offset x z r
Replies command.Checkpoint x z r =
    (a : Result ℕ Fault) × Gives (step x checkpoint) (answered saved a) z × (r ≡ replied letter.Checkpoint reply.Kept a)
Replies (command.Cycle flash disk) x z r =
    Gives (step x (power_cycle flash disk)) (Ok cycled) z × (r ≡ reply.Cycled)

-- A line that gives no command leaves the store as it is.
abbrev pub RepliesTo : Option Command → Store → Store → Reply → Type 0
RepliesTo None x z r = (z ≡ x) × (r ≡ reply.Unclear)
RepliesTo (Some c) x z r = Replies c x z r

module _ {F D : Type 0} (f : Ghosts F) (d : Ghosts D) where
  -- A store in order stays so, and is answered by the calls of the command.
  abbrev pub Answers : CodeStore F D → CodeStore F D → (Store → Store → Type 0) → Type 0
  Answers s t way = InOrder f d s → InOrder f d t × way (view f d s) (view f d t)

  -- Whatever run lies behind the store, the run goes on.
  abbrev pub Goes : CodeStore F D → CodeStore F D → Type 0
  Goes s t = InOrder f d s → (b : Book) → Run (view f d s) b → (c : Book) × Run (view f d t) c

  -- Both, over any number of lines.
  pub record Carries (s t : CodeStore F D) : Type 0 where
    pub keeps : InOrder f d s → InOrder f d t
    pub goes : Goes s t
