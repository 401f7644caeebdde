-- What is true of the blocks that are rendered from a plan. Assumes nothing.
use Rattle.std.specs.Prelude.{◌≡◌, ℕ, true, List, map}
use Rattle.std.specs.List.{flat_map, AllByRecursion}
use Rattle.drawing.specs.Drawing.{priority}
use Rattle.kinds.specs.Kind.{Kind, Lawful}
use Rattle.planner.specs.declared.row.Row.{Row}
use Rattle.planner.specs.Plan.{rank_tree}
use Rattle.planner.specs.Rows.{row_of}
use Rattle.image.specs.declared.settings.Settings.{Settings}
use Rattle.image.specs.Image.{tree_block, tree_of}
use Rattle.image.specs.Messages.{key_of, Messages}
use Rattle.image.specs.Settings.{settings_fit}
use Rattle.rendering.specs.Rendered.{renderable, row_block}

-- the table of a set of messages: one after the other
abbrev pub table_of : List (List ℕ) → List ℕ
table_of ms = flat_map (λ m. m) ms

module _ (kind : Kind) where
  -- what planning is told of them
  abbrev pub priorities_of : List (List ℕ) → List ℕ
  priorities_of ms = map (λ m. priority (key_of kind m)) ms

  abbrev pub measures_of : List (List ℕ) → List ℕ
  measures_of ms = map kind.measured ms

  -- the rows of their plan
  abbrev pub plan_of : Settings → List (List ℕ) → List Row
  plan_of s ms = map (row_of (measures_of ms)) (rank_tree (priorities_of ms) s.alpha s.rho)

-- each row of a plan can be rendered, and the blocks of all of them are the tree blocks of the image, in their order
pub record RenderLaws (kind : Kind) (s : Settings) (ms : List (List ℕ)) : Type 0 where
  pub possible : AllByRecursion (λ row. renderable kind s.alpha (table_of ms) row ≡ true) (plan_of kind s ms)
  pub blocks : map (row_block kind s.alpha (table_of ms)) (plan_of kind s ms) ≡ map (tree_block kind s.alpha) (tree_of kind s ms)

-- for any set of messages of a lawful kind, and settings that fit
abbrev pub PlansRenderImages : Type 0
PlansRenderImages =
    (kind : Kind) (s : Settings) (ms : List (List ℕ))
    → Lawful kind → settings_fit kind.width s ≡ true → Messages kind ms
    → RenderLaws kind s ms
