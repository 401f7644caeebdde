use Rattle.image_laws.proofs.Following.{walks_follow_the_tree}
use Rattle.image_laws.proofs.walks_follow_the_tree.Goals as goal

pub returns : goal.returns
returns c = walks_follow_the_tree
