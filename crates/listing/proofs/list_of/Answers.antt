-- `listing::list_of` meets its contract: the three pieces are those that the definition names. Assumes nothing.
use Rattle.texts.proofs.TextLaws.{wrote-front}
use Rattle.listing.proofs.list_of.Goals as goal

pub returns-clause-text : goal.returns-clause-text
returns-clause-text c = rw (← c.piece-left.ensures, ← c.piece-right.ensures, ← c.piece-certificate.ensures) (wrote-front _ c.list.ensures.text)
