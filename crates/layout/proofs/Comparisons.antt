-- Comparing by numbers that determine what they are read from is a total order. Assumes nothing.
use Rattle.std.proofs.Common.{◌≡◌, ℕ, List}
use Rattle.std.proofs.lemmas.Cmp.{nat_list_cmp_total, tied_itself}
use Rattle.std.proofs.lemmas.Map.Lookups.{exact_bytes}
use Rattle.layout.specs.Orders.{TotalOrder, lexical}

pub total_by_numbers : {X : Type 0} (D : X → Type 0) (numbers : X → List ℕ) →
    ((a b : X) → D a → D b → numbers a ≡ numbers b → a ≡ b) → TotalOrder D (λ a b. lexical (numbers a) (numbers b))
total_by_numbers D numbers determine =
    record {
      same = λ a da. tied_itself nat_list_cmp_total (numbers a);
      equal = λ a b da db h. determine a b da db (exact_bytes (numbers a) (numbers b) h);
      mirror = λ a b da db. nat_list_cmp_total.antisymm (numbers b) (numbers a);
      transitive = λ a b c da db dc h k. nat_list_cmp_total.trans (numbers a) (numbers b) (numbers c) h k;
    }
