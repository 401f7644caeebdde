use Rattle.image_laws.proofs.Arriving.{order_does_not_matter, set_from_its_messages}
use Rattle.image_laws.proofs.order_does_not_matter.Goals as goal

pub returns : goal.returns
returns c = record { same = order_does_not_matter; whole = set_from_its_messages }
