-- How items are read one by one. Assumes nothing.
use Rattle.std.proofs.Common.{◌≡◌, ℕ, suc, ◌≤◌, Bool, true, false, cond, eqb, leb, List, [], ◌∷◌, ◌++◌, length, take, drop, Some, None, Ok, Err, Option, Result, sym, refl, ap, ◌∙◌, subst, ap₂, arith}
use Rattle.std.specs.Result.{result_err, result_map_both}
use Rattle.std.proofs.lemmas.Bool.{leb-true, eqb-true}
use Rattle.std.proofs.lemmas.List.{length-append, length-take-le, take-append-drop}
use Rattle.fields.specs.Numbers.{Bytes}
use Rattle.parcels.specs.Format.{ItemValue, message, note, encode_item, ItemFits}
use Rattle.parcels.specs.Reading.{cut_item, read_note, read_item, read_items}

pub none_some : {X : Type 0} {x : X} → None ≡ Some x → ⊥
none_some e = let z : ◌≡◌ {A = ℕ} 0 1 = cc in omega arith

-- what a cut gives: an item of the first k bytes, and the bytes after them
cut_from : (k : ℕ) (item : List ℕ → ItemValue) (bytes : List ℕ) (p : ItemValue × List ℕ) → cut_item k item bytes ≡ Some p → (k ≤ length bytes) × ((item (take k bytes), drop k bytes) ≡ p)
cut_from k item bytes p e = go (leb k (length bytes)) refl e
  where
    go : (t : Bool) → leb k (length bytes) ≡ t → cond t (Some (item (take k bytes), drop k bytes)) None ≡ Some p → (k ≤ length bytes) × ((item (take k bytes), drop k bytes) ≡ p)
    go true long e = (leb-true k (length bytes) long, cc)
    go false short e = absurd (none_some e)

-- an item that is read was written at the front
pub record Opens (width : ℕ) (bytes : List ℕ) (p : ItemValue × List ℕ) : Type 0 where
  pub front : bytes ≡ encode_item p.0 ++ p.1
  pub fits : Bytes bytes → ItemFits width p.0

pub opens : (width : ℕ) (bytes : List ℕ) (p : ItemValue × List ℕ) → read_item width bytes ≡ Some p → Opens width bytes p
opens width [] p e = absurd (none_some e)
opens width (first ∷ rest) p e = go (eqb first 1) (eqb first 2) refl refl e
  where
    of_message : first ≡ 1 → cut_item width message rest ≡ Some p → Opens width (first ∷ rest) p
    of_message is e =
        let cut = cut_from width message rest p e in
        subst (Opens width (first ∷ rest)) cut.1 (record {
          front = ap₂ ◌∷◌ is (sym (take-append-drop width rest));
          fits = λ _. length-take-le width rest cut.0;
        })

    of_note : (rest : List ℕ) → first ≡ 2 → read_note rest ≡ Some p → Opens width (first ∷ rest) p
    of_note [] is e = absurd (none_some e)
    of_note (n ∷ rest) is e =
        let cut = cut_from n note rest p e in
        let long = length-take-le n rest cut.0 in
        subst (Opens width (first ∷ n ∷ rest)) cut.1 (record {
          front = ap₂ ◌∷◌ is (ap₂ ◌∷◌ (sym long) (sym (take-append-drop n rest)));
          fits = λ small. omega (arith, small.1.0);
        })

    go : (s t : Bool) → eqb first 1 ≡ s → eqb first 2 ≡ t → cond s (cut_item width message rest) (cond t (read_note rest) None) ≡ Some p → Opens width (first ∷ rest) p
    go true t is_message_lem is-note e = of_message (eqb-true first 1 is_message_lem) e
    go false true is_message_lem is-note e = of_note rest (eqb-true first 2 is-note) e
    go false false is_message_lem is-note e = absurd (none_some e)

-- the bytes after an item are no more than those before it
pub length-after : (width : ℕ) (bytes : List ℕ) (p : ItemValue × List ℕ) → read_item width bytes ≡ Some p → length p.1 ≤ length bytes
length-after width bytes p e = omega (arith, simp length-append at (ap length (opens width bytes p e).front))

pub err_part_mapped : {X Y : Type 0} (f : X → Y) (r : Result X (ℕ × ℕ)) → result_err (result_map_both f (λ e. e) r) ≡ result_err r
err_part_mapped f (Ok x) = refl
err_part_mapped f (Err e) = refl

-- m items are still to come from the bytes left, and e is the refusal, if any
pub record Refused (width total m : ℕ) (bytes : List ℕ) (e : Option (ℕ × ℕ)) : Type 0 where
  pub is : result_err (read_items width total m bytes) ≡ e

module _ {width total m : ℕ} {bytes : List ℕ} {e : Option (ℕ × ℕ)} (left : Refused width total m bytes e) where
  pub refused_after : (n : ℕ) (p : ItemValue × List ℕ) → m ≡ suc n → read_item width bytes ≡ Some p → Refused width total n p.1 e
  refused_after n p more read = record { is = sym (err_part_mapped _ (read_items width total n p.1)) ∙ rw (more, read) at left.is }
