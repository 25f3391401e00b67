-- What a lane carries, and its effect on a line.
use Rattle.std.specs.Prelude.{ℕ, ◌*◌, ◌/◌, Bool, List, [], ◌∷◌, ℤ, pos, ◌+ℤ◌, ◌*ℤ◌}
use Rattle.lines.specs.Lines.{Line, ordinate_or_zero}
use Rattle.lines.specs.Cells.{areas, block}
use Rattle.loads.specs.declared.load_sets.Loads.{Loads}
use Rattle.loads.specs.declared.load_sets.Spread.{Spread}
use Rattle.loads.specs.declared.load_sets.Group.{Group}
use Rattle.loads.specs.declared.load_sets.Group.TheVariants.{Single, Bogie12, Bogie21, Triple211, Triple121, Triple112}

-- A group of axles with the first at a; a vehicle or a train with its block from a on and A at z; a train and a light lane have p on a set of cells.
pub data Load : Type 0 where
  axles : Group → ℤ → Load
  vehicle : ℤ → ℤ → Load
  train : ℤ → ℤ → (ℕ → Bool) → Load
  light : (ℕ → Bool) → Load

-- The weights of a group's axles, from the first on.
abbrev pub weights : Loads → Group → List ℕ
weights t Single = t.single ∷ []
weights t Bogie12 = t.bogie ∷ t.second ∷ []
weights t Bogie21 = t.second ∷ t.bogie ∷ []
weights t Triple211 = t.second ∷ t.triple ∷ t.triple ∷ []
weights t Triple121 = t.triple ∷ t.second ∷ t.triple ∷ []
weights t Triple112 = t.triple ∷ t.triple ∷ t.second ∷ []

-- Weight × ordinate at each axle, the first at a and each other d further on.
abbrev pub at_axles : Line → ℕ → ℤ → List ℕ → ℤ
at_axles l d a [] = pos 0
at_axles l d a (w ∷ ws) = pos w *ℤ ordinate_or_zero l a +ℤ at_axles l d (a +ℤ pos d) ws

-- Effects are in 1 / 224,000 kN times ordinate, so that a kN on one cell comes to 112,000 × its double area. V has V / length kN on each: 16 × V for 7,000 mm, 7 × V for 16,000 mm.
abbrev pub spread_effect : Line → Spread → ℤ → ℤ
spread_effect l s a = pos (112000 / s.length * s.weight) *ℤ areas l (block a s.length)

-- An axle of so many kN at z.
abbrev pub axle_effect : Line → ℕ → ℤ → ℤ
axle_effect l weight z = pos (224000 * weight) *ℤ ordinate_or_zero l z

-- p of so many kN per metre on a set of cells: 672 × the double areas for 6 kN per metre.
abbrev pub lane_load_effect : Line → ℕ → (ℕ → Bool) → ℤ
lane_load_effect l p set = pos (112 * p) *ℤ areas l set

-- The lane effect E.
abbrev pub lane_effect : Line → Loads → Load → ℤ
lane_effect l t (axles g a) = pos 224000 *ℤ at_axles l t.spacing a (weights t g)
lane_effect l t (vehicle a z) = spread_effect l t.vehicle a +ℤ axle_effect l t.extra z
lane_effect l t (train a z set) = spread_effect l t.train a +ℤ axle_effect l t.extra z +ℤ lane_load_effect l t.lane set
lane_effect l t (light set) = lane_load_effect l t.lane set

-- Up to three weights, with 0 for the absent.
abbrev pub padded : List ℕ → ℕ × ℕ × ℕ
padded [] = (0, 0, 0)
padded (u ∷ []) = (u, 0, 0)
padded (u ∷ v ∷ []) = (u, v, 0)
padded (u ∷ v ∷ w ∷ ws) = (u, v, w)
