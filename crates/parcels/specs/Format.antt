-- What a parcel holds, and how it is written down. Assumes nothing.
use Rattle.std.specs.Prelude.{◌≡◌, ℕ, ◌^◌, ◌<◌, List, ◌∷◌, ◌++◌, length, codes}
use Rattle.std.specs.List.{flat_map, AllByRecursion}
use Rattle.fields.specs.Numbers.{le}

-- what an item holds: the bytes of a message, or those of a note
pub data ItemValue : Type 0 where
  message : List ℕ → ItemValue
  note : List ℕ → ItemValue

-- what a parcel holds: the number of its chapter, and its items in order
pub record Contents : Type 0 where
  pub chapter : ℕ
  pub items : List ItemValue

-- the first three bytes of every parcel
abbrev pub parcel_mark : List ℕ
parcel_mark = codes "PCL"

-- the one version that is written and read
abbrev pub parcel_version : ℕ
parcel_version = 1

-- the first byte of a message is 1, of a note 2, and its second is the length of what follows
abbrev pub encode_item : ItemValue → List ℕ
encode_item (message bs) = 1 ∷ bs
encode_item (note bs) = 2 ∷ length bs ∷ bs

-- mark, version, kind, chapter number and item count: twelve bytes
abbrev pub encode_header : ℕ → ℕ → ℕ → List ℕ
encode_header kind chapter count = parcel_mark ++ (le 2 parcel_version ++ (kind ∷ (le 4 chapter ++ le 2 count)))

-- the parcel of a kind written down: the header, then the items one after the other
abbrev pub encode : ℕ → Contents → List ℕ
encode kind c = encode_header kind c.chapter (length c.items) ++ flat_map encode_item c.items

-- a message has the kind's width, and the length of a note fits one byte
abbrev pub ItemFits : ℕ → ItemValue → Type 0
ItemFits width (message bs) = length bs ≡ width
ItemFits width (note bs) = length bs < 256

-- what can be written as a parcel: a chapter number of four bytes, an item count of two, and items that fit
pub record Fits (width : ℕ) (c : Contents) : Type 0 where
  pub chapter : c.chapter < 256 ^ 4
  pub count : length c.items < 256 ^ 2
  pub each : AllByRecursion (ItemFits width) c.items
