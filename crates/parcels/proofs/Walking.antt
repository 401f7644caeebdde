-- The items of a parcel, one after the other. Assumes nothing.
use Rattle.std.proofs.Common.{◌≡◌, ℕ, zero, suc, ◌-◌, List, [], ◌∷◌, length, take, drop, Some, None, Ok, Err, Option, Result, sym, refl, ap, ◌∙◌}
use Rattle.std.specs.Result.{result_err, result_map_both}
use Rattle.std.proofs.lemmas.List.{take_rest}
use Rattle.parcels.specs.Format.{ItemValue}
use Rattle.parcels.specs.Reading.{read_item, read_items, item_then, front_then, front_items, header_refusal, read_parcel, chapter_of, count_of, for_chapter}
use Rattle.parcels.proofs.Opening.{err_part_mapped, none_some}

-- items that are not refused are those at the front
front_all : (width total n : ℕ) (bytes : List ℕ) → result_err (read_items width total n bytes) ≡ None → read_items width total n bytes ≡ Ok (front_items width n bytes)
front_all width total zero [] none = refl
front_all width total zero (b ∷ bytes) none = absurd (none_some (sym none))
front_all width total (suc n) bytes none = go (read_item width bytes) (front_all width total n) none
  where
    go : (o : Option (ItemValue × List ℕ)) → ((rest : List ℕ) → result_err (read_items width total n rest) ≡ None → read_items width total n rest ≡ Ok (front_items width n rest)) → result_err (item_then o (33, total - length bytes) (read_items width total n)) ≡ None → item_then o (33, total - length bytes) (read_items width total n) ≡ Ok (front_then o (front_items width n))
    go None others none = absurd (none_some (sym none))
    go (Some p) others none = ap (result_map_both (λ items. p.0 ∷ items) (λ e. e)) (others p.1 (sym (err_part_mapped _ (read_items width total n p.1)) ∙ none))

err_from_part : {X : Type 0} (r : Result X (ℕ × ℕ)) (e : ℕ × ℕ) → result_err r ≡ Some e → r ≡ Err e
err_from_part (Ok x) e is = absurd (none_some is)
err_from_part (Err d) e is = cc

-- a parcel whose header is not refused, by its fields and the bytes after the header as the code has them
module _ (kind width : ℕ) (bytes : List ℕ) (count : ℕ) (header : None ≡ header_refusal kind bytes) (counted : count ≡ count_of bytes) where
  abbrev after : List ℕ
  after = take (length bytes - 12) (drop 12 bytes)

  -- the parcel's answer by that of its items
  read_by : (r : Result (List ItemValue) (ℕ × ℕ)) → read_items width (length bytes) count after ≡ r → read_parcel kind width bytes ≡ result_map_both (for_chapter bytes) (λ e. e) r
  read_by r is = rw (← header, ← counted) (ap (result_map_both (for_chapter bytes) (λ e. e)) (ap (read_items width (length bytes) count) (sym (take_rest bytes 12)) ∙ is))

  pub parcel_refused : (e : ℕ × ℕ) → Some e ≡ result_err (read_items width (length bytes) count after) → Err e ≡ read_parcel kind width bytes
  parcel_refused e refused = sym (read_by (Err e) (err_from_part _ e (sym refused)))

  pub parcel_accepted : (chapter : ℕ) → chapter ≡ chapter_of bytes → None ≡ result_err (read_items width (length bytes) count after) → Ok (record { chapter = chapter; items = front_items width count after }) ≡ read_parcel kind width bytes
  parcel_accepted chapter is none = rw is (sym (read_by (Ok (front_items width count after)) (front_all width (length bytes) count after (sym none))))
