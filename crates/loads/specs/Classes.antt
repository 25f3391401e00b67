-- The classes, their numbers and the table of their loads.
use Rattle.std.specs.Prelude.{ℕ}
use Rattle.loads.specs.declared.classes.Class.{Class}
use Rattle.loads.specs.declared.classes.Class.TheVariants.{Bk6, Bk8, BkT8, Bk10}
use Rattle.loads.specs.declared.load_sets.Loads.{Loads}

-- The number of a class; 0 means none.
abbrev pub class_number : Class → ℕ
class_number Bk6 = 1
class_number Bk8 = 2
class_number BkT8 = 3
class_number Bk10 = 4

-- A row of the table: the single axle, which A2 is too, bogie A1, triple A1, spacing of axles in mm, vehicle V over 7,000 mm, train V over 16,000 mm, A on vehicle or train. p is 6 kN per metre.
abbrev pub row : ℕ → ℕ → ℕ → ℕ → ℕ → ℕ → ℕ → Loads
row s b t d v w a = record {
  single = s;
  second = s;
  bogie = b;
  triple = t;
  spacing = d;
  vehicle = record { weight = v; length = 7000 };
  train = record { weight = w; length = 16000 };
  extra = a;
  lane = 6;
}

abbrev pub loads : Class → Loads
loads Bk6 = row 84 30 40 1200 180 280 24
loads Bk8 = row 112 40 50 1200 220 320 32
loads BkT8 = row 112 40 60 1200 280 400 32
loads Bk10 = row 160 65 70 1300 300 500 40
