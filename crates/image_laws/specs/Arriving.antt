-- Messages that arrive in any order. Assumes nothing.
use Rattle.std.specs.Prelude.{◌≡◌, ℕ, List, []}
use Rattle.std.specs.List.Sorted.{IsPermutation}
use Rattle.std.specs.List.{AllByRecursion}
use Rattle.kinds.specs.Kind.{Kind, Lawful}
use Rattle.image.specs.Messages.{Valid, Messages, put_all}

-- messages put into a set one after the other leave a set, and in another order they leave the same one
pub record ArrivalLaws (kind : Kind) (xs ys set : List (List ℕ)) : Type 0 where
  pub leaves : Messages kind (put_all kind xs set)
  pub same : put_all kind ys set ≡ put_all kind xs set

-- for any valid messages, some of them perhaps with one key, and the same messages in any other order
abbrev pub OrderDoesNotMatter : Type 0
OrderDoesNotMatter =
    (kind : Kind) (xs ys set : List (List ℕ))
    → Lawful kind → Messages kind set → AllByRecursion (Valid kind) xs → IsPermutation xs ys
    → ArrivalLaws kind xs ys set

-- a set is made of its messages, in whatever order they are put together
abbrev pub SetFromItsMessages : Type 0
SetFromItsMessages =
    (kind : Kind) (ms ys : List (List ℕ))
    → Lawful kind → Messages kind ms → IsPermutation ms ys
    → put_all kind ys [] ≡ ms
