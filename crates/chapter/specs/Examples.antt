-- The worked examples: chapters laid out and filled by the calls' definitions, and what the calls then answer. Assumes nothing.
use Rattle.std.specs.Prelude.{◌≡◌, ℕ, ◌*◌, List, [], ◌∷◌, ◌++◌, map, take, drop, replicate, Some, None, Ok, Err}
use Rattle.drawing.specs.Drawing.{priority}
use Rattle.fields.specs.Numbers.{le}
use Rattle.kinds.specs.IndexMarks.{index_marks}
use Rattle.kinds.specs.Paragraphs.{paragraphs}
use Rattle.image.specs.Image.{zero_block}
use Rattle.image.specs.Messages.{key_of}
use Rattle.image.specs.Reading.{field, mask, slots}
use Rattle.image.specs.declared.settings.Settings.{Settings}
use Rattle.chapter.specs.Deliver.{deliver_answer, deliver_blocks}
use Rattle.chapter.specs.Layout.{lay_out_answer, lay_out_blocks}
use Rattle.chapter.specs.LookUp.{look_up_answer}
use Rattle.chapter.specs.Page.{page_answer}

-- a paragraph of origin 1 and sender 1 with text 0, by place, state, lines and stamp
abbrev pub paragraph : (place state lines stamp : ℕ) → List ℕ
paragraph place state lines stamp = le 4 place ++ (1 ∷ 1 ∷ state ∷ lines ∷ (le 4 stamp ++ le 4 0))

-- ten lines with stamp 1, as all that follow unless said
abbrev pub set_at : ℕ → List ℕ
set_at place = paragraph place 1 10 1

abbrev pub key_at : ℕ → List ℕ
key_at place = key_of paragraphs (set_at place)

abbrev pub settings : (alpha rho : ℕ) → Settings
settings alpha rho = record { alpha = alpha; rho = rho; capacity = 8 }

-- the work table of a chapter with a capacity of eight
abbrev pub work : ℕ
work = 8 * 16

abbrev pub deliver_each : List (List ℕ) → List (List ℕ) → List (List ℕ)
deliver_each [] blocks = blocks
deliver_each (m ∷ ms) blocks = deliver_each ms (deliver_blocks paragraphs work m blocks)

-- nine blocks laid out as chapter 7, and the paragraphs delivered in turn
abbrev pub filled_with : Settings → List (List ℕ) → List (List ℕ)
filled_with s ms = deliver_each ms (lay_out_blocks paragraphs 7 s (replicate 9 zero_block))

-- places 1 to 8 with alpha 2 and rho 2
abbrev pub eight : List (List ℕ)
eight = filled_with (settings 2 2) (map set_at (1 ∷ 2 ∷ 3 ∷ 4 ∷ 5 ∷ 6 ∷ 7 ∷ 8 ∷ []))

-- places 1 to 6 with alpha 2 and rho 3
abbrev pub six : List (List ℕ)
six = filled_with (settings 2 3) (map set_at (1 ∷ 2 ∷ 3 ∷ 4 ∷ 5 ∷ 6 ∷ []))

-- the eight after place 2 was cut
abbrev pub eight_with_cut : List (List ℕ)
eight_with_cut = deliver_blocks paragraphs work (paragraph 2 2 0 2) eight

-- the places in the tree's blocks, block by block
abbrev pub places_in : (u : ℕ) → List (List ℕ) → List (List ℕ)
places_in u blocks = map (λ bytes. map (field 0 4) (slots paragraphs bytes)) (take u (drop 1 blocks))

pub record WorkedExamples : Type 0 where
  -- place 1 has priority 9DF5h
  pub first_priority : priority (key_at 1) ≡ 40437
  pub eight_blocks : places_in 8 eight ≡ (4 ∷ 6 ∷ []) ∷ (1 ∷ 2 ∷ []) ∷ (3 ∷ []) ∷ (5 ∷ []) ∷ (7 ∷ 8 ∷ []) ∷ [] ∷ [] ∷ [] ∷ []
  pub six_blocks : places_in 6 six ≡ (4 ∷ 6 ∷ []) ∷ (2 ∷ 5 ∷ []) ∷ (1 ∷ 3 ∷ []) ∷ [] ∷ [] ∷ [] ∷ []
  pub six_mask : map mask (take 1 (drop 1 six)) ≡ 2 ∷ []
  -- look-ups among the eight
  pub finds_place_3 : look_up_answer paragraphs (key_at 3) 16 eight ≡ Ok (record { message = Some (set_at 3); reads = 4 })
  pub finds_place_6 : look_up_answer paragraphs (key_at 6) 16 eight ≡ Ok (record { message = Some (set_at 6); reads = 2 })
  pub misses_place_9 : look_up_answer paragraphs (key_at 9) 16 eight ≡ Ok (record { message = None; reads = 3 })
  -- place 3 again with stamp 2: with 12 lines four blocks differ, with 10 lines one
  pub more_lines : deliver_answer paragraphs work (paragraph 3 1 12 2) eight ≡ Ok (2, 4)
  pub same_lines : deliver_answer paragraphs work (paragraph 3 1 10 2) eight ≡ Ok (2, 1)
  -- with 25 lines to a page, and after place 2 was cut; an edit of place 2 with a later stamp is overtaken
  pub page_of_6 : page_answer paragraphs (key_at 6) 25 eight ≡ Ok (Some 3)
  pub page_after_cut : page_answer paragraphs (key_at 6) 25 eight_with_cut ≡ Ok (Some 2)
  pub late_edit : deliver_answer paragraphs work (paragraph 2 1 10 3) eight_with_cut ≡ Ok (3, 0)
  -- the most entries that a block can hold
  pub paragraphs_10 : lay_out_answer paragraphs 9 (settings 10 2) ≡ Ok tt
  pub paragraphs_11 : lay_out_answer paragraphs 9 (settings 11 2) ≡ Err (27, 1)
  pub marks_6 : lay_out_answer index_marks 9 (settings 6 2) ≡ Ok tt
  pub marks_7 : lay_out_answer index_marks 9 (settings 7 2) ≡ Err (27, 1)
