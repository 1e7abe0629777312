-- Refusals: each case with its number, its layer and what it tells.
use Rattle.std.specs.Prelude.{ℕ, List, [], ◌++◌, codes, decimal}
use Rattle.dayfile.specs.declared.fault.Fault.{Fault}
use Rattle.dayfile.specs.declared.fault.Fault.TheVariants.{Length, Check, Order, Field, Rising, Owners, Counts, Event, PoolCost, TariffPlaces, PoolWeight, PostingRows, OtherSheet, PostingClosed, Held, NoRow, WithdrawingRows, WithdrawingClosed, NotHeld, ClosingDate, RecordField, RecordOwners, Room, NoResource, GridEvent}
use Rattle.dayfile.specs.declared.fault.Layer.{Layer}
use Rattle.dayfile.specs.declared.fault.Layer.TheVariants.{File, Block, End, Settling, Posting, Withdrawing, Closing, Writing, Grid}
use Rattle.dayfile.specs.declared.fault.Place.{Place}
use Rattle.dayfile.specs.declared.fault.Place.TheVariants.{Nowhere, Byte, Hour, Pool, Row}
use Rattle.dayfile.specs.declared.fault.Place.TheVariants.{Block as AtBlock, Field as AtField}

-- what a refusal says: its number, the layer at which the call stopped, and what it tells
pub record Notice : Type 0 where
  pub number : ℕ
  pub layer : Layer
  pub place : Place

abbrev says : ℕ → Layer → Place → Notice
says n l p = record { number = n; layer = l; place = p }

abbrev pub notice : Fault → Notice
notice Length = says 1 File Nowhere
notice (Check k) = says 2 Block (AtBlock k)
notice (Order k) = says 3 Block (AtBlock k)
notice (Field k p) = says 4 Block (AtField k p)
notice (Rising k) = says 5 Block (AtBlock k)
notice (Owners k) = says 6 Block (AtBlock k)
notice Counts = says 7 End Nowhere
notice (Event k h) = says 8 Settling (Hour k h)
notice (PoolCost p) = says 9 Settling (Pool p)
notice TariffPlaces = says 10 Settling Nowhere
notice (PoolWeight p) = says 11 Settling (Pool p)
notice PostingRows = says 20 Posting Nowhere
notice OtherSheet = says 12 Posting Nowhere
notice PostingClosed = says 13 Posting Nowhere
notice (Held r) = says 14 Posting (Row r)
notice NoRow = says 15 Posting Nowhere
notice WithdrawingRows = says 20 Withdrawing Nowhere
notice WithdrawingClosed = says 13 Withdrawing Nowhere
notice NotHeld = says 16 Withdrawing Nowhere
notice ClosingDate = says 17 Closing Nowhere
notice (RecordField p) = says 4 Writing (Byte p)
notice RecordOwners = says 6 Writing Nowhere
notice Room = says 18 Writing Nowhere
notice NoResource = says 19 Grid Nowhere
notice GridEvent = says 8 Grid Nowhere

abbrev pub number_of : Fault → ℕ
number_of f = (notice f).number

abbrev pub layer_of : Fault → Layer
layer_of f = (notice f).layer

abbrev pub place_of : Fault → Place
place_of f = (notice f).place

-- how each is shown in words
abbrev pub layer_text : Layer → List ℕ
layer_text File = codes "file"
layer_text Block = codes "block"
layer_text End = codes "end"
layer_text Settling = codes "settling"
layer_text Posting = codes "posting"
layer_text Withdrawing = codes "withdrawing"
layer_text Closing = codes "closing"
layer_text Writing = codes "writing"
layer_text Grid = codes "grid"

abbrev pub place_text : Place → List ℕ
place_text Nowhere = []
place_text (AtBlock k) = codes "block " ++ decimal k
place_text (AtField k p) = codes "block " ++ decimal k ++ codes ", byte " ++ decimal p
place_text (Byte p) = codes "byte " ++ decimal p
place_text (Hour k h) = codes "block " ++ decimal k ++ codes ", hour " ++ decimal h
place_text (Pool p) = codes "pool " ++ decimal p
place_text (Row r) = codes "row " ++ decimal r

-- a place behind what was said before
abbrev pub place_after : Place → List ℕ
place_after Nowhere = []
place_after p = codes ", " ++ place_text p

abbrev pub fault_text : Fault → List ℕ
fault_text f = codes "refused " ++ decimal (number_of f) ++ codes ", layer " ++ layer_text (layer_of f) ++ place_after (place_of f)
