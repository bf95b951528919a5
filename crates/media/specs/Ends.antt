-- A tray and a card are one type over lent bytes, but for its lay.
use Rattle.medium.specs.Meaning.{Meaning}
use Rattle.media.specs.Lent.{Parts, Coding, means}
use Rattle.media.specs.declared.lent.Lent.{Lent}

module _ {L : Type 0} where
  abbrev pub of_lent : Lent L → Parts
  of_lent e = record { bytes = e.bytes.now; strike = e.strike; charge = e.charge; lit = e.lit }

  abbrev pub means_of : Coding → Lent L → Meaning
  means_of c e = means c (of_lent e)

  -- Such a medium is always in order.
  abbrev pub inorder_of : Lent L → Type 0
  inorder_of e = Unit {0}
