-- The items of a parcel gone through in order. Assumes nothing.
use Rattle.std.specs.Prelude.{◌≡◌, ℕ, ◌+◌, ◌-◌, List, [], ◌∷◌, Some, None, Option}
use Rattle.parcels.specs.declared.item.Item.{Item}
use Rattle.parcels.specs.declared.parcel.Parcel.{Parcel}
use Rattle.parcels.specs.declared.walk.Items.{Items}
use Rattle.parcels.specs.Format.{ItemValue, message, note, Contents}
use Rattle.parcels.specs.Meaning.{value_of}
use Rattle.parcels.specs.Reading.{front_items}

-- what a parcel that was read holds
abbrev pub contents : Parcel → Contents
contents p = record { chapter = p.chapter; items = front_items p.width p.count p.items.now }

-- each with its number, from k on
abbrev pub numbered : ℕ → List ItemValue → List (ℕ × ItemValue)
numbered k [] = []
numbered k (x ∷ xs) = (k, x) ∷ numbered (k + 1) xs

-- the items still to come, with their numbers
abbrev pub to_come : Items → List (ℕ × ItemValue)
to_come s = numbered (s.passed + 1) (front_items s.width (s.count - s.passed) s.rest.now)

-- one step gives the first of those, if there is one, and leaves the others
abbrev pub Walks : Items → Option (ℕ × Item) → Items → Type 0
Walks s None t = (to_come s ≡ []) × (to_come t ≡ [])
Walks s (Some x) t = to_come s ≡ (x.0, value_of x.1) ∷ to_come t

-- how many of the items are messages, and how many notes
abbrev pub messages_in : List ItemValue → ℕ
messages_in [] = 0
messages_in (message bs ∷ xs) = 1 + messages_in xs
messages_in (note bs ∷ xs) = messages_in xs

abbrev pub notes_in : List ItemValue → ℕ
notes_in [] = 0
notes_in (message bs ∷ xs) = notes_in xs
notes_in (note bs ∷ xs) = 1 + notes_in xs
