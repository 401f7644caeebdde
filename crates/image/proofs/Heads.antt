-- The head, written and read back. Assumes nothing.
use Rattle.std.proofs.Common.{◌≡◌, ℕ, ◌^◌, ◌<◌, ◌≤◌, Bool, true, ◌&&◌, eqb, leb, List, ◌∷◌, ◌++◌, Some, refl, ap, ◌∙◌, arith}
use Rattle.std.proofs.lemmas.Bool.{and_from, and_parts, leb-true, le-leb, eq-eqb, cond-true}
use Rattle.fields.specs.Numbers.{le}
use Rattle.fields.proofs.Numbers.{bytes_le, number-le}
use Rattle.kinds.specs.Kind.{Kind, Lawful}
use Rattle.image.specs.declared.head.Counts.{Counts}
use Rattle.image.specs.Image.{head_mark, head_version, head_block}
use Rattle.image.specs.Laws.{Block, CountsFit, HeadReadsBack}
use Rattle.image.specs.declared.head.Head.{Head}
use Rattle.image.specs.Reading.{head_fields, head_right}
use Rattle.image.specs.declared.settings.Settings.{Settings}
use Rattle.image.specs.Settings.{settings_fit}
use Rattle.image.proofs.Blocks.{block_of_lem, bytes_then}

-- the limits of the settings, as numbers
pub record Limits (s : Settings) : Type 0 where
  pub alpha_low : 1 ≤ s.alpha
  pub alpha : s.alpha ≤ 16
  pub rho_low : 1 ≤ s.rho
  pub rho : s.rho ≤ 2000
  pub capacity : s.capacity ≤ 2000

pub limits : (width : ℕ) (s : Settings) → settings_fit width s ≡ true → Limits s
limits width s fit =
    let parts = and_parts _ _ fit in
    let alpha = and_parts _ _ parts.0 in
    let others = and_parts _ _ parts.1 in
    let rho = and_parts _ _ others.0 in
    record {
      alpha_low = leb-true 1 s.alpha alpha.0;
      alpha = leb-true s.alpha 16 (and_parts _ _ alpha.1).0;
      rho_low = leb-true 1 s.rho rho.0;
      rho = leb-true s.rho 2000 rho.1;
      capacity = leb-true s.capacity 2000 (and_parts _ _ others.1).1;
    }

module _ (kind : Kind) (s : Settings) (chapter : ℕ) (counts : Counts) (fit : settings_fit kind.width s ≡ true) (low : chapter < 256 ^ 4) (fits : CountsFit s counts) where
  abbrev bytes : List ℕ
  bytes = head_block kind s chapter counts

  abbrev says : Head
  says = record { settings = s; counts = counts; chapter = chapter }

  fields_back : head_fields bytes ≡ says
  fields_back =
      let l = limits kind.width s fit in
      let rho' = number-le 2 s.rho (omega (arith, l.rho)) in
      let capacity' = number-le 2 s.capacity (omega (arith, l.capacity)) in
      let entries' = number-le 2 counts.entries (omega (arith, l.capacity, fits.entries)) in
      let blocks' = number-le 2 counts.blocks (omega (arith, l.capacity, fits.entries, fits.blocks)) in
      let measure' = number-le 4 counts.measure fits.measure in
      let chapter' = number-le 4 chapter low in
      λ i. record {
        settings = record { alpha = s.alpha; rho = rho' i; capacity = capacity' i };
        counts = record { entries = entries' i; blocks = blocks' i; measure = measure' i };
        chapter = chapter' i;
      }

  head_right_lem : head_right kind bytes ≡ true
  head_right_lem =
      let test : Head → Bool = λ h. settings_fit kind.width h.settings && (leb h.counts.entries h.settings.capacity && leb h.counts.blocks h.counts.entries) in
      let passed : test says ≡ true = and_from _ _ fit (and_from _ _ (le-leb _ _ fits.entries) (le-leb _ _ fits.blocks)) in
      and_from (eqb kind.number kind.number) (test (head_fields bytes)) (eq-eqb _ _ refl) (ap test fields_back ∙ passed)

  head_block_lem : Lawful kind → Block bytes
  head_block_lem lawful =
      let measure = le 4 counts.measure ++ le 4 chapter in
      let blocks = le 2 counts.blocks ++ measure in
      let entries = le 2 counts.entries ++ blocks in
      let capacity = le 2 s.capacity ++ entries in
      let rho = le 2 s.rho ++ capacity in
      let numbers =
      bytes_then 2 s.rho capacity (bytes_then 2 s.capacity entries (bytes_then 2 counts.entries blocks (bytes_then 2 counts.blocks measure (bytes_then 4 counts.measure (le 4 chapter) (bytes_le 4 chapter))))) in
      let kind' : kind.number < 256 = omega (arith, lawful.number_high) in
      let alpha' : s.alpha < 256 = omega (arith, (limits kind.width s fit).alpha) in
      block_of_lem (head_mark ++ (le 2 head_version ++ (kind.number ∷ s.alpha ∷ rho))) (omega arith)
      (omega arith, (omega arith, (omega arith, (omega arith, (omega arith, (kind', (alpha', numbers)))))))

pub head_reads_back : HeadReadsBack
head_reads_back kind s chapter counts lawful fit low fits = record {
  block = head_block_lem kind s chapter counts fit low fits lawful;
  reads_back = cond-true _ _ _ (head_right_lem kind s chapter counts fit low fits) ∙ ap Some (fields_back kind s chapter counts fit low fits);
}
