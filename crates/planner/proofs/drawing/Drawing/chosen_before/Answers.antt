use Rattle.std.proofs.Common.{◌≡◌, ℕ, true, false, [], ◌∷◌, ◌++◌, rules}
use Rattle.std.proofs.lemmas.List.Sorted.{IsPartitionPoint-from_clause}
use Rattle.planner.specs.Drawing.{rank_before}
use Rattle.planner.proofs.Searching.{parted_front, point_at_end, point_before}
use Rattle.planner.proofs.drawing.Drawing.chosen_before.Goals as goal

pub returns-in-Some-clause-place : goal.returns-in-Some-clause-place
returns-in-Some-clause-place g c parted =
    let before = λ (y : ℕ). rank_before c.args.self.now.priorities y c.args.rank in
    let xs = c.in-Some.others.now in
    let x = c.in-Some.last.now in
    let whole : c.args.chosen.now ≡ xs ++ x ∷ [] = c.in-Some.ensures.cases.0 in
    let divided = rw whole at parted in
    let failed : before x ≡ false = search rules in
    let point = IsPartitionPoint-from_clause (λ y. before y) xs c.partition_point.result c.partition_point.ensures.partitioned (parted_front before xs x divided) (λ a r f called. search rules) in
    rw whole (point_before before xs x divided failed c.partition_point.result c.partition_point.ensures.bound point)

pub returns-in_default-clause-place : goal.returns-in_default-clause-place
returns-in_default-clause-place g c parted =
    let before = λ (y : ℕ). rank_before c.args.self.now.priorities y c.args.rank in
    let xs = c.in-Some.others.now in
    let x = c.in-Some.last.now in
    let whole : c.args.chosen.now ≡ xs ++ x ∷ [] = c.in-Some.ensures.cases.0 in
    let divided = rw whole at parted in
    let passed : before x ≡ true = search rules in
    rw whole (point_at_end before xs x divided passed)
