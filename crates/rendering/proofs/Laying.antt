-- Bytes laid down one after the other. Assumes nothing.
use Rattle.std.proofs.Common.{◌≡◌, ℕ, ◌+◌, ◌-◌, ◌*◌, ◌≤◌, List, ◌++◌, length, take, drop, replicate, sym, ap, ◌∙◌, subst, ap₂, arith}
use borrow.Rule.Slice.PartMut.{put_mid, post_of}
use Rattle.std.proofs.lemmas.List.{append_assoc, length-append, take_at, take-replicate, drop_at, drop-replicate}
use Rattle.std.proofs.Math.Seq.{take-append-add}
use Rattle.std.specs.List.{flat_map}
use Rattle.fields.specs.Numbers.{filled}
use Rattle.rendering.specs.Laid.{Laid, Begun, with_bytes}

abbrev pub zeros : ℕ → List ℕ
zeros n = replicate n 0

module _ {front : List ℕ} {at : ℕ} {block : List ℕ} (laid : Laid front at block) where
  pub kept : take at block ≡ front
  kept = ap (take at) laid.is ∙ take_at front (zeros (256 - length front)) at (sym laid.ends)

  left : (k : ℕ) → post_of at k block ≡ zeros (256 - length front - k)
  left k = ap (λ l. drop k (drop at l)) laid.is ∙ ap (drop k) (drop_at front (zeros (256 - length front)) at (sym laid.ends)) ∙ drop-replicate k (256 - length front) 0

  -- bytes written where the front ends are laid down too
  pub laid_more : (bytes ys : List ℕ) → at + length bytes ≤ 256 → ys ≡ bytes → Laid (front ++ bytes) (at + length bytes) (put_mid at (at + length bytes - at) block ys)
  laid_more bytes ys room same =
      let long = length-append front bytes in
      let rest : 256 - length front - (at + length bytes - at) ≡ 256 - length (front ++ bytes) = omega (arith, long, laid.ends) in
      record {
        is = ap₂ ◌++◌ kept (ap₂ ◌++◌ same (left (at + length bytes - at) ∙ ap zeros rest)) ∙ sym (append_assoc front bytes (zeros (256 - length (front ++ bytes))));
        ends = omega (arith, long, laid.ends);
        fits = room;
      }

  -- up to a later offset the block has the front and zeros
  pub skipped : (end : ℕ) → at ≤ end → end ≤ 256 → take end block ≡ filled end 0 front
  skipped end ahead inside =
      let rest = end - length front in
      let there : end ≡ length front + rest = omega (arith, laid.ends) in
      ap₂ take there laid.is
      ∙ take-append-add front (zeros (256 - length front)) rest
      ∙ ap (λ l. front ++ l) (take-replicate rest (256 - length front) 0 (omega (arith, laid.ends)))

  -- the front is what the block has up to there
  pub relaid : Laid (take at block) at block
  relaid = subst (λ bytes. Laid bytes at block) (sym kept) laid

-- the pieces of the first i of xs, all of one width, put down behind what was there
pub record Writing {X : Type 0} (f : X → List ℕ) (w : ℕ) (xs : List X) (old : Begun) (i : ℕ) (new : Begun) : Type 0 where
  pub is : new ≡ with_bytes old (flat_map f (take i xs))
  pub long : length new.front ≡ length old.front + i * w
