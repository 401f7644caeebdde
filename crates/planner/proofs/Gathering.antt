-- The first section of a list, gathered from the left. Assumes nothing.
use Rattle.std.proofs.Common.{◌≡◌, ℕ, ◌+◌, ◌*◌, ◌<◌, ◌≤◌, Bool, true, false, List, [], ◌∷◌, ◌++◌, length, get_or, take, drop, set, sym, refl, ap, ◌∙◌, ap₂, arith}
use Rattle.std.proofs.lemmas.List.{append-nil, append_assoc, drop_all, drop-drop, drop_more, drop-set-lt, take_more_set, length-set}
use Rattle.std.proofs.lemmas.List.Sums.{sum_by_push}
use Rattle.tree.specs.Tree.{cut, into_first}
use Rattle.tree.proofs.Cutting.{length_cut}
use Rattle.planner.specs.Rows.{measure_of}

-- a list put before the first of some lists
abbrev pub onto : {X : Type 0} → List X → List (List X) → List (List X)
onto front [] = front ∷ []
onto front (s ∷ parts) = (front ++ s) ∷ parts

onto-into_first : {X : Type 0} (front : List X) (x : X) (parts : List (List X)) → onto front (into_first x parts) ≡ onto (front ++ x ∷ []) parts
onto-into_first front x [] = refl
onto-into_first front x (s ∷ parts) = ap (λ l. l ∷ parts) (sym (append_assoc front (x ∷ []) s))

onto_none : {X : Type 0} (parts : List (List X)) → 0 < length parts → onto [] parts ≡ parts
onto_none [] some = absurd (omega arith)
onto_none (s ∷ parts) some = refl

module _ {X : Type 0} (separator taken : X → Bool) where
  -- zs began as xs. What belongs to the first section in the first i of xs stands in the first k places of zs, and from i on zs is
  -- as it was
  pub record Gathering (xs zs : List X) (k i : ℕ) : Type 0 where
    pub parts : cut separator taken xs ≡ onto (take k zs) (cut separator taken (drop i xs))
    pub rest : drop i zs ≡ drop i xs
    pub behind : k ≤ i
    pub within : i ≤ length xs
    pub long : length zs ≡ length xs

  pub gathering_none : (xs : List X) → Gathering xs xs 0 0
  gathering_none xs =
      record {
        parts = sym (onto_none (cut separator taken xs) (omega (arith, length_cut separator taken xs)));
        rest = refl;
        behind = omega arith;
        within = omega arith;
        long = refl;
      }

  module _ (xs zs : List X) (k i : ℕ) (x d : X) (sofar : Gathering xs zs k i) (inside : i < length zs) (read : x ≡ get_or zs i d) where
    pub rest_next : drop (i + 1) zs ≡ drop (i + 1) xs
    rest_next = sym (drop-drop 1 i zs) ∙ ap (drop 1) sofar.rest ∙ drop-drop 1 i xs

    same_next : drop i xs ≡ x ∷ drop (i + 1) xs
    same_next = sym sofar.rest ∙ drop_more zs i d inside ∙ ap₂ ◌∷◌ (sym read) rest_next

    pub gathered_to : separator x ≡ true → cut separator taken xs ≡ take k zs ∷ cut separator taken (drop (i + 1) xs)
    gathered_to h = sofar.parts ∙ rw (same_next, h) (ap (λ l. l ∷ cut separator taken (drop (i + 1) xs)) (append-nil (take k zs)))

    pub gathering_skip : separator x ≡ false → taken x ≡ true → Gathering xs zs k (i + 1)
    gathering_skip h t =
        record {
          parts = sofar.parts ∙ rw (same_next, h, t) refl;
          rest = rest_next;
          behind = omega (arith, sofar.behind);
          within = omega (arith, sofar.long);
          long = sofar.long;
        }

    pub gathering_more : separator x ≡ false → taken x ≡ false → Gathering xs (set zs k x) (k + 1) (i + 1)
    gathering_more h t =
        record {
          parts = sofar.parts ∙ rw (same_next, h, t, take_more_set zs k x (omega (arith, sofar.behind))) (onto-into_first (take k zs) x _);
          rest = drop-set-lt (i + 1) zs k x (omega (arith, sofar.behind)) ∙ rest_next;
          behind = omega (arith, sofar.behind);
          within = omega (arith, sofar.long);
          long = length-set zs k x ∙ sofar.long;
        }

  pub gathered_all : (xs zs : List X) (k i : ℕ) → Gathering xs zs k i → length xs ≤ i → cut separator taken xs ≡ take k zs ∷ []
  gathered_all xs zs k i sofar past = sofar.parts ∙ rw (drop_all i xs past) (ap (λ l. l ∷ []) (append-nil (take k zs)))

-- the measures of the first k of zs, summed; each is a number of two bytes
pub record Summed (measures zs : List ℕ) (k sum : ℕ) : Type 0 where
  pub is : sum ≡ measure_of measures (take k zs)
  pub small : sum ≤ k * 65535

pub summed_more : (measures zs : List ℕ) (k sum x m : ℕ) → k < length zs → m ≡ get_or measures x 0 → m ≤ 65535 → Summed measures zs k sum → Summed measures (set zs k x) (k + 1) (sum + m)
summed_more measures zs k sum x m inside read low sofar =
    record {
      is = rw (take_more_set zs k x inside) (omega (arith, sofar.is, read, sum_by_push (λ i. get_or measures i 0) (take k zs) x));
      small = omega (arith, sofar.small, low);
    }
