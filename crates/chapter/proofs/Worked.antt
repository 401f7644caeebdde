-- The worked examples, computed. Assumes nothing.
use Rattle.std.proofs.Common.{refl}
use lib.Count.{ones}
use Rattle.drawing.specs.Drawing.{table, substitute}
use Rattle.chapter.specs.Examples.{WorkedExamples}

pub worked : WorkedExamples
unfolding table substitute ones
worked =
    record {
      first_priority = refl;
      eight_blocks = refl;
      six_blocks = refl;
      six_mask = refl;
      finds_place_3 = refl;
      finds_place_6 = refl;
      misses_place_9 = refl;
      more_lines = refl;
      same_lines = refl;
      page_of_6 = refl;
      page_after_cut = refl;
      late_edit = refl;
      paragraphs_10 = refl;
      paragraphs_11 = refl;
      marks_6 = refl;
      marks_7 = refl;
    }
