use Rattle.rendering.proofs.Planned.{plans_render_images}
use Rattle.rendering.proofs.plans_render_images.Goals as goal

pub returns : goal.returns
returns c = plans_render_images
