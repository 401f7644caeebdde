-- A parcel is accepted exactly if it was written, and what is read is what was written. Assumes nothing.
use Rattle.std.proofs.Common.{◌≡◌, ℕ, zero, suc, ◌-◌, ◌≤◌, Bool, true, false, cond, List, [], ◌∷◌, ◌++◌, length, get_or, drop, Some, None, Ok, Err, Option, Result, sym, refl, ap, ◌∙◌, subst, ap₂, arith}
use Rattle.std.specs.Result.{result_map_both}
use Rattle.std.specs.List.{flat_map, AllByRecursion}
use Rattle.std.proofs.ByRecursion.{All-drop}
use Rattle.std.proofs.lemmas.Slice.Eq.{bytes_eq-Decides}
use Rattle.std.proofs.lemmas.List.{length-append, take_at, drop_at, drop_more}
use Rattle.std.proofs.lemmas.Bool.{ltb-false, le-leb, le-ltb, eq-eqb, eqb-true, not-false, cond-true}
use Rattle.fields.specs.Numbers.{Bytes, number, le, part}
use Rattle.fields.proofs.Numbers.{number-le, number-part-lt, le-part, part_then}
use Rattle.parcels.specs.Format.{ItemValue, message, note, Contents, parcel_mark, parcel_version, encode_item, encode_header, encode, ItemFits, Fits}
use Rattle.parcels.specs.Reading.{cut_item, read_item, read_items, item_then, header_refusal, unless_refused, read_parcel, chapter_of, count_of, for_chapter, AcceptsWritten}
use Rattle.parcels.proofs.Opening.{none_some, opens}

-- a cut gives back what was put at the front
cut_written : (item : List ℕ → ItemValue) (bs rest : List ℕ) → cut_item (length bs) item (bs ++ rest) ≡ Some (item bs, rest)
cut_written item bs rest =
    let long : length bs ≤ length (bs ++ rest) = simp length-append (omega arith) in
    cond-true _ _ _ (le-leb (length bs) (length (bs ++ rest)) long) ∙ (λ i. Some (item (take_at bs rest (length bs) refl i), drop_at bs rest (length bs) refl i))

-- an item that was written is read
item_written : (width : ℕ) (x : ItemValue) (rest : List ℕ) → ItemFits width x → read_item width (encode_item x ++ rest) ≡ Some (x, rest)
item_written width (message bs) rest fits = rw (← fits) (cut_written message bs rest)
item_written width (note bs) rest fits = cut_written note bs rest

items_written : (width total : ℕ) (xs : List ItemValue) → AllByRecursion (ItemFits width) xs → read_items width total (length xs) (flat_map encode_item xs) ≡ Ok xs
items_written width total [] fits = refl
items_written width total (x ∷ xs) fits = rw (item_written width x (flat_map encode_item xs) fits.0, items_written width total xs fits.1)

-- items that are read were written
pub record Written (width n : ℕ) (bytes : List ℕ) (xs : List ItemValue) : Type 0 where
  pub bytes_are : bytes ≡ flat_map encode_item xs
  pub fit : AllByRecursion (ItemFits width) xs
  pub counted : length xs ≡ n

err_ok : {X E : Type 0} {x : X} {e : E} → Err e ≡ Ok x → ⊥
err_ok is = let z : ◌≡◌ {A = ℕ} 0 1 = cc in omega arith

same_ok : {X E : Type 0} {x y : X} → ◌≡◌ {A = Result X E} (Ok x) (Ok y) → x ≡ y
same_ok is = cc

all_after : {X : Type 0} (P : X → Type 0) (xs ys : List X) → AllByRecursion P (xs ++ ys) → AllByRecursion P ys
all_after P [] ys h = h
all_after P (x ∷ xs) ys h = all_after P xs ys h.1

items_read : (width total n : ℕ) (bytes : List ℕ) (xs : List ItemValue) → Bytes bytes → read_items width total n bytes ≡ Ok xs → Written width n bytes xs
items_read width total zero [] xs small e = subst (Written width 0 []) (same_ok e) (record { bytes_are = refl; fit = tt; counted = refl })
items_read width total zero (b ∷ bytes) xs small e = absurd (err_ok e)
items_read width total (suc n) bytes xs small e = go (λ rest. items_read width total n rest) (read_item width bytes) refl e
  where
    -- one item before others that were written
    more : (p : ItemValue × List ℕ) (ys : List ItemValue) → read_item width bytes ≡ Some p → Written width n p.1 ys → Written width (suc n) bytes (p.0 ∷ ys)
    more p ys read others =
        let front = opens width bytes p read in
        record {
          bytes_are = front.front ∙ ap (λ l. encode_item p.0 ++ l) others.bytes_are;
          fit = (front.fits small, others.fit);
          counted = ap suc others.counted;
        }

    rest_small : (p : ItemValue × List ℕ) → read_item width bytes ≡ Some p → Bytes p.1
    rest_small p read = all_after _ (encode_item p.0) p.1 (subst Bytes (opens width bytes p read).front small)

    others : (p : ItemValue × List ℕ) (r : Result (List ItemValue) (ℕ × ℕ)) → ((ys : List ItemValue) → r ≡ Ok ys → Written width n p.1 ys) → read_item width bytes ≡ Some p → result_map_both (λ items. p.0 ∷ items) (λ e. e) r ≡ Ok xs → Written width (suc n) bytes xs
    others p (Ok ys) ih read e = subst (Written width (suc n) bytes) (same_ok e) (more p ys read (ih ys refl))
    others p (Err d) ih read e = absurd (err_ok e)

    go : ((rest : List ℕ) (ys : List ItemValue) → Bytes rest → read_items width total n rest ≡ Ok ys → Written width n rest ys) → (o : Option (ItemValue × List ℕ)) → read_item width bytes ≡ o → item_then o (33, total - length bytes) (read_items width total n) ≡ Ok xs → Written width (suc n) bytes xs
    go ih None read e = absurd (err_ok e)
    go ih (Some p) read e = others p (read_items width total n p.1) (λ ys. ih p.1 ys (rest_small p read)) read e

none_from_cond : {X : Type 0} (t : Bool) (x : X) (o : Option X) → cond t (Some x) o ≡ None → (t ≡ false) × (o ≡ None)
none_from_cond true x o is = absurd (none_some (sym is))
none_from_cond false x o is = (refl, is)

-- a header that is not refused
record Header (kind : ℕ) (bytes : List ℕ) : Type 0 where
  long : 12 ≤ length bytes
  mark : part 0 3 bytes ≡ parcel_mark
  version : number (part 3 2 bytes) ≡ parcel_version
  same_kind : get_or bytes 5 0 ≡ kind

header_read : (kind : ℕ) (bytes : List ℕ) → header_refusal kind bytes ≡ None → Header kind bytes
header_read kind bytes none =
    let short = none_from_cond _ _ _ none in
    let mark = none_from_cond _ _ _ short.1 in
    let version = none_from_cond _ _ _ mark.1 in
    let same_kind = none_from_cond _ _ _ version.1 in
    record {
      long = ltb-false _ 12 short.0;
      mark = (bytes_eq-Decides _ parcel_mark).0 (not-false _ mark.0);
      version = eqb-true _ _ (not-false _ version.0);
      same_kind = eqb-true _ kind (not-false _ same_kind.0);
    }

-- the bytes of such a header, written again
header_bytes : (kind : ℕ) (bytes : List ℕ) → Bytes bytes → Header kind bytes → bytes ≡ encode_header kind (chapter_of bytes) (count_of bytes) ++ drop 12 bytes
header_bytes kind bytes small h =
    let long = h.long in
    let count = part_then 10 2 bytes ∙ ap (λ l. l ++ drop 12 bytes) (sym (le-part 10 2 bytes (omega arith) small)) in
    let chapter = part_then 6 4 bytes ∙ ap₂ ◌++◌ (sym (le-part 6 4 bytes (omega arith) small)) count in
    let same_kind = drop_more bytes 5 0 (omega arith) ∙ ap₂ ◌∷◌ h.same_kind chapter in
    let version = part_then 3 2 bytes ∙ ap₂ ◌++◌ (sym (le-part 3 2 bytes (omega arith) small) ∙ ap (le 2) h.version) same_kind in
    part_then 0 3 bytes ∙ ap₂ ◌++◌ h.mark version

header_written : (kind : ℕ) (c : Contents) → header_refusal kind (encode kind c) ≡ None
header_written kind c =
    let long : 12 ≤ length (encode kind c) = omega arith in
    rw (le-ltb (length (encode kind c)) 12 long, eq-eqb kind kind refl)

-- what was written is read
pub written_accepted : (kind width : ℕ) (c : Contents) → Fits width c → read_parcel kind width (encode kind c) ≡ Ok c
written_accepted kind width c fits =
    let bytes = encode kind c in
    let chapter : chapter_of bytes ≡ c.chapter = number-le 4 c.chapter fits.chapter in
    let counted : count_of bytes ≡ length c.items = number-le 2 (length c.items) fits.count in
    let read = ap (λ n. read_items width (length bytes) n (drop 12 bytes)) counted ∙ items_written width (length bytes) c.items fits.each in
    rw (header_written kind c) (ap (result_map_both (for_chapter bytes) (λ e. e)) read ∙ (λ i. Ok (record { chapter = chapter i; items = c.items })))

-- what is read was written
pub accepted_written : (kind width : ℕ) (bytes : List ℕ) (c : Contents) → Bytes bytes → read_parcel kind width bytes ≡ Ok c → (bytes ≡ encode kind c) × Fits width c
accepted_written kind width bytes c small accepted = go (header_refusal kind bytes) refl accepted
  where
    is_written : (xs : List ItemValue) → header_refusal kind bytes ≡ None → read_items width (length bytes) (count_of bytes) (drop 12 bytes) ≡ Ok xs → (bytes ≡ encode kind (for_chapter bytes xs)) × Fits width (for_chapter bytes xs)
    is_written xs none read =
        let written = items_read width (length bytes) (count_of bytes) (drop 12 bytes) xs (All-drop _ 12 bytes small) read in
        let counted = written.counted in (
          header_bytes kind bytes small (header_read kind bytes none) ∙ ap₂ (λ n l. encode_header kind (chapter_of bytes) n ++ l) (sym counted) written.bytes_are,
          record {
            chapter = number-part-lt 6 4 bytes small;
            count = omega (arith, number-part-lt 10 2 bytes small);
            each = written.fit;
          },
        )

    items : (r : Result (List ItemValue) (ℕ × ℕ)) → header_refusal kind bytes ≡ None → read_items width (length bytes) (count_of bytes) (drop 12 bytes) ≡ r → result_map_both (for_chapter bytes) (λ e. e) r ≡ Ok c → (bytes ≡ encode kind c) × Fits width c
    items (Ok xs) none read e = subst (λ d. (bytes ≡ encode kind d) × Fits width d) (same_ok e) (is_written xs none read)
    items (Err d) none read e = absurd (err_ok e)

    go : (o : Option (ℕ × ℕ)) → header_refusal kind bytes ≡ o → unless_refused o (result_map_both (for_chapter bytes) (λ e. e) (read_items width (length bytes) (count_of bytes) (drop 12 bytes))) ≡ Ok c → (bytes ≡ encode kind c) × Fits width c
    go None none e = items (read_items width (length bytes) (count_of bytes) (drop 12 bytes)) none refl e
    go (Some d) refused e = absurd (err_ok e)

pub accepts_written : (kind width : ℕ) (bytes : List ℕ) (r : Result Contents (ℕ × ℕ)) → Bytes bytes → r ≡ read_parcel kind width bytes → AcceptsWritten kind width bytes r
accepts_written kind width bytes r small is c = (
  λ accepted. accepted_written kind width bytes c small (sym is ∙ accepted),
  λ written. is ∙ ap (read_parcel kind width) written.0 ∙ written_accepted kind width c written.1,
)
