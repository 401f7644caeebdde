-- A node that is sound, and reads back from its block, makes the block well formed. Assumes nothing.
use Rattle.std.proofs.Common.{◌≡◌, ℕ, ◌+◌, ◌^◌, ◌≤◌, true, not, ltb, List, [], ◌∷◌, map, length, is_some, sym, refl, ap, ◌∙◌, ⊎_elim, arith}
use Rattle.std.specs.Ordering.{is_lt}
use Rattle.std.specs.List.{AllByRecursion}
use Rattle.std.proofs.ByRecursion.{All-map, All-weaker}
use Rattle.std.proofs.lemmas.Bool.{and_from, or_left, or_right, le-leb, lt-ltb, eq-eqb}
use Rattle.kinds.specs.Kind.{Kind}
use Rattle.tree.specs.Laws.{Pairwise}
use Rattle.tree.specs.Tree.{Section, Node}
use Rattle.tree.proofs.Lists.{all_join}
use Rattle.tree.proofs.Onward.{LeadsTo}
use Rattle.image.specs.Laws.{section_says, ReadsBack}
use Rattle.image.specs.Messages.{Valid, total_measure}
use Rattle.image.specs.Reading.{every, entry_count, mask, slots, keys_rise, keys_rise_from, message_valid, sections_of, section_sound, of_kind, well_formed}
use Rattle.image.proofs.Loops.{every_true}
use Rattle.std.proofs.lemmas.Simd.{mask_l-lt}
use Rattle.image.proofs.Drawn.{KeyBelow}

module _ (kind : Kind) where
  rise_from : (last : List ℕ) (ms : List (List ℕ)) → Pairwise (KeyBelow kind) (last ∷ ms) → keys_rise_from kind last ms ≡ true
  rise_from last [] rising = refl
  rise_from last (m ∷ ms) rising = and_from _ _ (ap is_lt rising.0.0) (rise_from m ms rising.1)

  keys_rise_lem : (ms : List (List ℕ)) → Pairwise (KeyBelow kind) ms → keys_rise kind ms ≡ true
  keys_rise_lem [] rising = refl
  keys_rise_lem (m ∷ ms) rising = rise_from m ms rising

-- what makes node b of a tree of u nodes sound
pub record Sound (kind : Kind) (alpha u b : ℕ) (node : Node (List ℕ)) : Type 0 where
  pub some : 1 ≤ length node.entries
  pub few : length node.entries ≤ alpha
  pub valid : AllByRecursion (Valid kind) node.entries
  pub rising : Pairwise (KeyBelow kind) node.entries
  pub flags : length node.active ≡ length node.entries
  pub onward : AllByRecursion (λ s. LeadsTo b (u + 1) s.number) node.sections
  pub measures : AllByRecursion (λ s. total_measure kind s.members ≤ 2000000) node.sections

module _ (kind : Kind) (alpha u b : ℕ) (node : Node (List ℕ)) (bytes : List ℕ) (sound : Sound kind alpha u b node) (back : ReadsBack kind alpha node bytes) where
  of_kind_lem : of_kind kind alpha bytes ≡ true
  of_kind_lem =
      and_from _ _ (le-leb 1 (entry_count bytes) (omega (arith, back.count, sound.some)))
      (and_from _ _ (le-leb (entry_count bytes) alpha (omega (arith, back.count, sound.few))) (eq-eqb _ kind.number back.same_kind))

  messages_valid : every (message_valid kind) (slots kind bytes) ≡ true
  messages_valid =
      ap (every (message_valid kind)) back.messages
      ∙ every_true (message_valid kind) node.entries (All-weaker _ _ (λ m v. ap (λ o. not (is_some o)) v.fields) node.entries sound.valid)

  mask_low : ltb (mask bytes) (2 ^ entry_count bytes) ≡ true
  mask_low =
      let bits : 2 ^ length node.active ≡ 2 ^ entry_count bytes = ap (λ n. 2 ^ n) (sound.flags ∙ sym back.count) in
      lt-ltb (mask bytes) (2 ^ entry_count bytes) (omega (arith, mask_l-lt node.active, back.separators, bits))

  section_sound_lem : (s : Section (List ℕ)) → LeadsTo b (u + 1) s.number → total_measure kind s.members ≤ 2000000 → section_sound u b (section_says kind s) ≡ true
  section_sound_lem s leads low =
      and_from _ _
      (⊎_elim (λ none. or_left _ _ (eq-eqb s.number 0 none)) (λ within. or_right _ _ (and_from _ _ (lt-ltb b s.number within.0) (le-leb s.number u (omega (arith, within.1))))) leads)
      (le-leb (total_measure kind s.members) 2000000 low)

  sections_sound : every (section_sound u b) (sections_of kind alpha bytes) ≡ true
  sections_sound =
      ap (every (section_sound u b)) back.sections
      ∙ every_true (section_sound u b) (map (section_says kind) node.sections) (All-map _ (section_says kind) node.sections (all_join section_sound_lem node.sections sound.onward sound.measures))

  pub well_formed_lem : well_formed kind alpha u b bytes ≡ true
  well_formed_lem =
      and_from _ _ of_kind_lem
      (and_from _ _ messages_valid
      (and_from _ _ (ap (keys_rise kind) back.messages ∙ keys_rise_lem kind node.entries sound.rising) (and_from _ _ mask_low sections_sound)))
