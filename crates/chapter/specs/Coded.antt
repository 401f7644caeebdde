-- The number and place of every refusal of a chapter, and the value of every outcome. Assumes nothing.
use Rattle.std.specs.Prelude.{ℕ}
use Rattle.stores.specs.Faults as stores
use Rattle.image.specs.Coded.{setting_coded}
use Rattle.chapter.specs.declared.answer.Outcome.{Outcome}
use Rattle.chapter.specs.declared.answer.Outcome.TheVariants.{New, Replaced, Overtaken}
use Rattle.chapter.specs.declared.fault.ChapterFault.{ChapterFault}
use Rattle.chapter.specs.declared.fault.ChapterFault.TheVariants.{Store, TreeTooLarge, WrongHead, WrongBlock, WrongLength, InvalidField, Full, WorkTooShort, OutOfLimits, StoreTooSmall, NoLines}

-- the store's refusals (11 and 12) are carried whole, and so is that of a setting (27)
abbrev pub coded : ChapterFault → ℕ × ℕ
coded (Store fault) = stores.coded fault
coded (TreeTooLarge capacity) = (20, capacity)
coded WrongHead = (21, 0)
coded (WrongBlock block) = (22, block)
coded (WrongLength length) = (23, length)
coded (InvalidField at) = (24, at)
coded (Full entries) = (25, entries)
coded (WorkTooShort needed) = (26, needed)
coded (OutOfLimits setting) = setting_coded setting
coded (StoreTooSmall needed) = (28, needed)
coded NoLines = (29, 0)

-- 1 for a new key, 2 where the message outranks the one that stood, 3 otherwise
abbrev pub outcome_value : Outcome → ℕ
outcome_value New = 1
outcome_value Replaced = 2
outcome_value Overtaken = 3
