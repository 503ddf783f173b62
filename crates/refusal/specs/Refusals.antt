-- What a refusal says.
use Rattle.std.specs.Prelude.{ℕ, List, ◌++◌, codes, decimal}
use Rattle.refusal.specs.declared.Layer.{Layer}
use Rattle.refusal.specs.declared.Layer.TheVariants.{Board, Ledger, Cabinet, Sheet, Rating}
use Rattle.refusal.specs.declared.Refusal.{Refusal}

-- the refusal of this number, counted to this layer, at this place
abbrev pub refused : ℕ → Layer → ℕ → Refusal
refused n l p = record { number = n; layer = l; place = p }

-- the word of a layer
abbrev pub layer_name : Layer → List ℕ
layer_name Board = codes "board"
layer_name Ledger = codes "ledger"
layer_name Cabinet = codes "cabinet"
layer_name Sheet = codes "sheet"
layer_name Rating = codes "rating"

-- `NUMBER LAYER PLACE`
abbrev pub refusal_parts : Refusal → List ℕ
refusal_parts r = decimal r.number ++ (codes " " ++ (layer_name r.layer ++ (codes " " ++ decimal r.place)))
