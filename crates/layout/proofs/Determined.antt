-- Fields that together take in every byte determine the bytes, so an order by them is total. Assumes nothing.
use Rattle.std.proofs.Common.{◌≡◌, ℕ, zero, suc, ◌+◌, ◌-◌, ◌<◌, ◌≤◌, Bool, true, false, ◌&&◌, ◌||◌, eqb, ltb, leb, List, [], ◌∷◌, length, get_or, take, drop, sym, refl, ap, ◌∙◌, ap₂, ⊎_elim, arith}
use Rattle.std.proofs.ByRecursion.{All-take, All-drop}
use Rattle.std.proofs.lemmas.List.{ext_get_or, get_or-take, get_or-drop, length-take, length-drop}
use Rattle.std.proofs.lemmas.Bool.{false≢true, eqb-true, leb-true, ltb-true, and_parts, or_cases}
use Rattle.std.proofs.lemmas.Bool.Decides.{Decides-below_and}
use Rattle.fields.proofs.Numbers.{le-number}
use Rattle.fields.specs.Numbers.{Bytes, number, le}
use Rattle.layout.specs.Layout.{by_fields, value, values}
use Rattle.layout.specs.Orders.{TotalOrder}
use Rattle.layout.specs.declared.Field.{Field}
use Rattle.layout.specs.declared.Field.TheVariants.{Byte, Folded, Number}
use Rattle.layout.proofs.Comparisons.{total_by_numbers}

-- the field has the byte at an offset; a folded byte tells less than the byte
abbrev pub has : Field → ℕ → Bool
has (Byte at) i = eqb at i
has (Folded at) i = false
has (Number at) i = leb at i && ltb i (at + 4)

abbrev pub have : List Field → ℕ → Bool
have [] i = false
have (field ∷ fields) i = has field i || have fields i

-- each byte below an end is one of the first bytes, which are known, or in a field
abbrev pub covered : List Field → ℕ → ℕ → Bool
covered fields known i = ltb i known || have fields i

abbrev pub all_covered : List Field → ℕ → ℕ → Bool
all_covered fields known zero = true
all_covered fields known (suc n) = covered fields known n && all_covered fields known n

same_number : (xs ys : List ℕ) → Bytes xs → Bytes ys → length xs ≡ length ys → number xs ≡ number ys → xs ≡ ys
same_number xs ys hx hy len e = sym (le-number xs hx) ∙ ap₂ le len e ∙ le-number ys hy

module _ (a b : List ℕ) (ha : Bytes a) (hb : Bytes b) (len : length a ≡ length b) where
  same_four : (at i : ℕ) → number (take 4 (drop at a)) ≡ number (take 4 (drop at b)) → at ≤ i → i < at + 4 → get_or a i 0 ≡ get_or b i 0
  same_four at i e low high =
      let part : take 4 (drop at a) ≡ take 4 (drop at b) = same_number _ _ (All-take _ 4 _ (All-drop _ at a ha)) (All-take _ 4 _ (All-drop _ at b hb)) (simp (length-take, length-drop) (omega arith)) e in
      let k : i - at < 4 = omega arith in
      let place : at + (i - at) ≡ i = omega arith in
      let read : (xs : List ℕ) → get_or (take 4 (drop at xs)) (i - at) 0 ≡ get_or xs i 0 = λ xs. get_or-take 4 (drop at xs) (i - at) 0 k ∙ get_or-drop at xs (i - at) 0 ∙ ap (λ n. get_or xs n 0) place in
      sym (read a) ∙ ap (λ xs. get_or xs (i - at) 0) part ∙ read b

  same_at : (field : Field) (i : ℕ) → value a field ≡ value b field → has field i ≡ true → get_or a i 0 ≡ get_or b i 0
  same_at (Byte at) i e t = let same = eqb-true at i t in ap (λ n. get_or a n 0) (sym same) ∙ e ∙ ap (λ n. get_or b n 0) same
  same_at (Folded at) i e t = absurd (false≢true t)
  same_at (Number at) i e t =
      let both = and_parts (leb at i) (ltb i (at + 4)) t in
      same_four at i e (leb-true at i both.0) (ltb-true i (at + 4) both.1)

  same_of : (fields : List Field) (i : ℕ) → values fields a ≡ values fields b → have fields i ≡ true → get_or a i 0 ≡ get_or b i 0
  same_of [] i e t = absurd (false≢true t)
  same_of (field ∷ fields) i e t =
      let first : value a field ≡ value b field = cc in
      let rest : values fields a ≡ values fields b = cc in
      ⊎_elim (same_at field i first) (same_of fields i rest) (or_cases (has field i) (have fields i) t)

  pub determined : (fields : List Field) (known : ℕ) → all_covered fields known (length a) ≡ true →
      take known a ≡ take known b → values fields a ≡ values fields b → a ≡ b
  determined fields known t front e =
      let cover = (Decides-below_and (covered fields known) (λ i. covered fields known i ≡ true) (all_covered fields known) (λ i. (λ p. p, λ p. p)) refl (λ n. refl) (length a)).0 t in
      ext_get_or 0 a b len
      (λ i lt.
      ⊎_elim
      (λ p.
      let k = ltb-true i known p in
      sym (get_or-take known a i 0 k) ∙ ap (λ xs. get_or xs i 0) front ∙ get_or-take known b i 0 k)
      (λ p. same_of fields i e p)
      (or_cases (ltb i known) (have fields i) (cover i lt)))

-- an order of keys by fields that take in all of a key
pub total_keys : (fields : List Field) (width : ℕ) → all_covered fields 0 width ≡ true →
    TotalOrder (λ key. Bytes key × (length key ≡ width)) (by_fields fields)
total_keys fields width t =
    total_by_numbers _ (values fields)
    (λ a b ha hb e. determined a b ha.0 hb.0 (ha.1 ∙ sym hb.1) fields 0 (ap (all_covered fields 0) ha.1 ∙ t) refl e)

-- an order of messages with one key, by fields that take in all bytes after the key
pub total_ranks : (fields : List Field) (key_width width : ℕ) → all_covered fields key_width width ≡ true →
    (key : List ℕ) → TotalOrder (λ message. Bytes message × (length message ≡ width) × (take key_width message ≡ key)) (by_fields fields)
total_ranks fields key_width width t key =
    total_by_numbers _ (values fields)
    (λ a b ha hb e.
    determined a b ha.0 hb.0 (ha.1 ∙ sym hb.1) fields key_width (ap (all_covered fields key_width) ha.1 ∙ t) (ha.2 ∙ sym hb.2) e)
