-- The drawing order of ranks is a strict total order. Assumes nothing.
use Rattle.std.proofs.Common.{ℕ, List, arith}
use Rattle.std.proofs.lemmas.Bool.Decides.{nat_tests}
use Rattle.tree.specs.Laws.{Strict}
use Rattle.planner.specs.Drawing.{rank_before}

pub strict : (priorities : List ℕ) → Strict (λ (_ : ℕ). Unit {0}) (rank_before priorities)
strict priorities =
    record {
      irreflexive = λ x _. grind (arith, nat_tests);
      transitive = λ x y z _ _ _ h k. grind (arith, nat_tests);
      connected = λ x y _ _ h k. grind (arith, nat_tests);
    }
