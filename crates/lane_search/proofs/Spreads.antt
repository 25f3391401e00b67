-- Blocks and light lanes as loads of a lane.
use Rattle.std.proofs.Common.{◌≡◌, ℕ, ◌*◌, ◌/◌, ◌≤◌, Bool, true, false, not, ◌&&◌, ℤ, pos, ◌+ℤ◌, ◌*ℤ◌, nat_abs, sym, refl, ap, ◌∙◌, le_trans, mul-le-mul, div-mul-le_self, arith, lit≤}
use lib.IntN.{zero-*ℤ}
use Rattle.std.proofs.lemmas.Int.{ints}
use Rattle.std.proofs.lemmas.Bool.{and_parts, not-true, both_ways}
use Rattle.keeper.specs.Order.{Order}
use Rattle.keeper.specs.Worst.{Worst}
use Rattle.keeper.proofs.Steps.{not_beyond_itself}
use Rattle.keeper.proofs.Scales.{times, added}
use Rattle.lines.specs.Lines.{Line, ordinate_or_zero}
use Rattle.lines.specs.Cells.{double_area, areas, block}
use Rattle.lines.proofs.Bounds.{Mild}
use Rattle.lines.proofs.Products.{abs_product}
use Rattle.lines.proofs.UnderCells.{under_small, block_small}
use Rattle.loads.specs.declared.load_sets.Loads.{Loads}
use Rattle.loads.specs.declared.load_sets.Spread.{Spread}
use Rattle.loads.specs.Loads.{Load, axles, vehicle, train, light, lane_effect, spread_effect, axle_effect, lane_load_effect}
use Rattle.loads.specs.Decks.{Start, OnBlock}
use Rattle.loads.proofs.Sizes.{spread_small, sum_small}
use Rattle.traffic.specs.declared.records.Sign.{Sign}
use Rattle.traffic.specs.declared.records.Sign.TheVariants as sign
use Rattle.traffic.specs.declared.records.Code.TheVariants as code
use Rattle.traffic.specs.Records.{fills, of_sign, beside_train}
use Rattle.lane_search.specs.declared.block_loads.BlockLoad.{BlockLoad}
use Rattle.lane_search.specs.Blocks.{Factors, beside, laden, On}
use Rattle.lane_search.specs.Gains.{gains}
use Rattle.lane_search.specs.declared.places.LanePlace.{LanePlace}
use Rattle.lane_search.specs.Places.{OfVehicle, OfTrain, Kind, Reaches}
use Rattle.lane_search.proofs.Sets.{under_alike, gains_furthest}

-- the two ways to say where a block and its axle may stand
on_start : (n : ℕ) (x : ℤ × ℤ) → On n (pos 100001) x → Start x.0 × OnBlock x.0 n x.1
on_start n x h = (record { low = h.0.0; high = omega (arith, ints, h.0.1) }, record { low = h.1.0; high = omega (arith, ints, h.1.1) })

start_on : (n : ℕ) (a z : ℤ) → Start a → OnBlock a n z → On n (pos 100001) (a, z)
start_on n a z h k = ((h.low, omega (arith, ints, h.high)), (k.low, omega (arith, ints, k.high)))

-- the order of the parts
apart : (x y z : ℤ) → x +ℤ (y +ℤ z) ≡ y +ℤ x +ℤ z
apart x y z = omega (arith, ints)

module _ {beyond : ℤ → ℤ → Bool} (o : Order beyond) (l : Line) (t : Loads) where
  vehicle_is : (b : BlockLoad) (x : ℤ × ℤ) → Factors t.vehicle t.extra 0 b → laden beyond l b x ≡ lane_effect l t (vehicle x.0 x.1)
  vehicle_is b x f =
      let z = zero-*ℤ (areas l (beside beyond l t.vehicle.length x.0)) in
      let e = apart (axle_effect l t.extra x.1) (spread_effect l t.vehicle x.0) (pos 0 *ℤ areas l (beside beyond l t.vehicle.length x.0)) in
      rw (f.length, f.rate, f.extra, f.lane) (omega (arith, ints))

  vehicle_worst : (b : BlockLoad) (s : ℤ) (x : ℤ × ℤ) → Factors t.vehicle t.extra 0 b → Worst beyond (laden beyond l b) (On b.length (pos 100001)) s x → Worst beyond (lane_effect l t) (OfVehicle t) s (vehicle x.0 x.1)
  vehicle_worst b s x f w = record {
    within = rw f.length at (on_start b.length x w.within);
    reached = w.reached ∙ vehicle_is b x f;
    none = by;
  }
    where
      by : (y : Load) → OfVehicle t y → beyond (lane_effect l t y) s ≡ false
      by (axles g a) h = absurd h
      by (vehicle a z) h = rw (← vehicle_is b (a, z) f) (w.none (a, z) (start_on b.length a z h.0 (rw f.length h.1)))
      by (train a z set) h = absurd h
      by (light set) h = absurd h

  module _ (s : Sign) (fit : (d : ℤ) → fills s d ≡ beyond d (pos 0)) where
    -- the cells that the sign fills are those that help
    filled : (k : ℕ) → of_sign l s k ≡ gains beyond l k
    filled k = fit (double_area l k)

    outside : (n : ℕ) (a : ℤ) → areas l (beside_train l n s a) ≡ areas l (beside beyond l n a)
    outside n a = under_alike l (beside_train l n s a) (beside beyond l n a) l.len (λ k. ap (λ (b : Bool). not (block a n k) && b) (filled k))

    train_is : (b : BlockLoad) (x : ℤ × ℤ) → Factors t.train t.extra t.lane b → laden beyond l b x ≡ lane_effect l t (train x.0 x.1 (beside_train l t.train.length s x.0))
    train_is b x f =
        rw (f.length, f.rate, f.extra, f.lane) (apart (axle_effect l t.extra x.1) (spread_effect l t.train x.0) (lane_load_effect l t.lane (beside beyond l t.train.length x.0))
        ∙ ap (λ (v : ℤ). spread_effect l t.train x.0 +ℤ axle_effect l t.extra x.1 +ℤ pos (112 * t.lane) *ℤ v) (sym (outside t.train.length x.0)))

    -- no set of cells outside the block goes further than those that help
    any_train : (a z : ℤ) (set : ℕ → Bool) → ((k : ℕ) → set k ≡ true → block a t.train.length k ≡ false) →
        beyond (lane_effect l t (train a z set)) (lane_effect l t (train a z (beside_train l t.train.length s a))) ≡ false
    any_train a z set h =
        added o _ _ _ _ (not_beyond_itself o (spread_effect l t.train a +ℤ axle_effect l t.extra z))
        (times o (112 * t.lane) (areas l set) (areas l (beside_train l t.train.length s a)) (rw (outside t.train.length a) (gains_furthest o l (block a t.train.length) set l.len h)))

    train_worst : (b : BlockLoad) (u : ℤ) (x : ℤ × ℤ) → Factors t.train t.extra t.lane b → Worst beyond (laden beyond l b) (On b.length (pos 100001)) u x → Worst beyond (lane_effect l t) (OfTrain t) u (train x.0 x.1 (beside_train l t.train.length s x.0))
    train_worst b u x f w = let p = on_start b.length x w.within in record {
      within = (p.0, rw f.length at p.1, λ k h. not-true _ (and_parts (not (block x.0 t.train.length k)) (of_sign l s k) h).0);
      reached = w.reached ∙ train_is b x f;
      none = by;
    }
      where
        by : (y : Load) → OfTrain t y → beyond (lane_effect l t y) u ≡ false
        by (axles g a) h = absurd h
        by (vehicle a z) h = absurd h
        by (train a z set) h = o.chain _ _ _ (any_train a z set h.2) (rw (← train_is b (a, z) f) (w.none (a, z) (start_on b.length a z h.0 (rw f.length h.1))))
        by (light set) h = absurd h

    -- in a light lane too
    light_worst : (u : ℤ) → u ≡ pos (112 * t.lane) *ℤ areas l (gains beyond l) → Worst beyond (lane_effect l t) (Kind t false) u (light (of_sign l s))
    light_worst u e = record {
      within = (refl, tt);
      reached = e ∙ ap (λ (v : ℤ). pos (112 * t.lane) *ℤ v) (sym (under_alike l (of_sign l s) (gains beyond l) l.len filled));
      none = by;
    }
      where
        by : (y : Load) → Kind t false y → beyond (lane_effect l t y) u ≡ false
        by (axles g a) h = absurd (both_ways true h.0 refl)
        by (vehicle a z) h = absurd (both_ways true h.0 refl)
        by (train a z set) h = absurd (both_ways true h.0 refl)
        by (light set) h = rw e (times o (112 * t.lane) (areas l set) (areas l (gains beyond l)) (gains_furthest o l (λ _. false) set l.len (λ k _. refl)))

-- how large the parts of an effect are
spread_part : (l : Line) (s : Spread) (a : ℤ) → Mild l → s.weight ≤ 800 → nat_abs (spread_effect l s a) ≤ 179200000000000
spread_part l s a m h =
    let p = spread_small (112000 / s.length) s.weight s.length 2000000 (nat_abs (areas l (block a s.length))) 112000 800 (div-mul-le_self 112000 s.length) h (block_small l m a s.length) in
    let e = abs_product (pos (112000 / s.length * s.weight)) (areas l (block a s.length)) in
    omega arith

axle_part : (l : Line) (w : ℕ) (z : ℤ) → Mild l → w ≤ 50 → nat_abs (axle_effect l w z) ≤ 11200000000000
axle_part l w z m h =
    let few : 224000 * w ≤ 11200000 = omega arith in
    let p = mul-le-mul few (m.small z) in
    let e = abs_product (pos (224000 * w)) (ordinate_or_zero l z) in
    omega arith

lane_part : (l : Line) (p : ℕ) (set : ℕ → Bool) → Mild l → p ≤ 6 → nat_abs (lane_load_effect l p set) ≤ 134400000000000
lane_part l p set m h =
    let few : 112 * p ≤ 672 = omega arith in
    let q = mul-le-mul few (under_small l m set l.len m.len_high) in
    let e = abs_product (pos (112 * p)) (areas l set) in
    omega arith

vehicle_small : (l : Line) (t : Loads) (a z : ℤ) → Mild l → t.vehicle.weight ≤ 800 → t.extra ≤ 50 → nat_abs (lane_effect l t (vehicle a z)) ≤ 330000000000000
vehicle_small l t a z m h k =
    le_trans (sum_small (spread_effect l t.vehicle a) (axle_effect l t.extra z) _ _ (spread_part l t.vehicle a m h) (axle_part l t.extra z m k)) (lit≤ tt)

train_small : (l : Line) (t : Loads) (a z : ℤ) (set : ℕ → Bool) → Mild l → t.train.weight ≤ 800 → t.extra ≤ 50 → t.lane ≤ 6 → nat_abs (lane_effect l t (train a z set)) ≤ 330000000000000
train_small l t a z set m h k j =
    let p = sum_small (spread_effect l t.train a) (axle_effect l t.extra z) _ _ (spread_part l t.train a m h) (axle_part l t.extra z m k) in
    le_trans (sum_small (spread_effect l t.train a +ℤ axle_effect l t.extra z) (lane_load_effect l t.lane set) _ _ p (lane_part l t.lane set m j)) (lit≤ tt)

-- what the searches of a vehicle, of a train and of p answer
pub vehicle_reaches : {beyond : ℤ → ℤ → Bool} → Order beyond → (l : Line) (t : Loads) → Mild l → t.vehicle.weight ≤ 800 → t.extra ≤ 50 → (b : BlockLoad) (s : ℤ) (p : LanePlace) → Factors t.vehicle t.extra 0 b →
    Worst beyond (laden beyond l b) (On b.length (pos 100001)) s (p.a, p.z) → p.code ≡ code.Vehicle → p.sign ≡ sign.None → Reaches beyond l t (OfVehicle t) s p
vehicle_reaches o l t m h k b s p f v ec es =
    let w = vehicle_worst o l t b s (p.a, p.z) f v in
    record { furthest = rw ec w; unused = rw (ec, es) refl; small = rw w.reached (vehicle_small l t p.a p.z m h k) }

pub train_reaches : {beyond : ℤ → ℤ → Bool} → Order beyond → (l : Line) (t : Loads) → Mild l → t.train.weight ≤ 800 → t.extra ≤ 50 → t.lane ≤ 6 → (b : BlockLoad) (s : ℤ) (p : LanePlace) → ((d : ℤ) → fills p.sign d ≡ beyond d (pos 0)) → Factors t.train t.extra t.lane b →
    Worst beyond (laden beyond l b) (On b.length (pos 100001)) s (p.a, p.z) → p.code ≡ code.Train → Reaches beyond l t (OfTrain t) s p
train_reaches o l t m h k j b s p fit f v ec =
    let w = train_worst o l t p.sign fit b s (p.a, p.z) f v in
    record { furthest = rw ec w; unused = rw ec tt; small = rw w.reached (train_small l t p.a p.z _ m h k j) }

pub light_reaches : {beyond : ℤ → ℤ → Bool} → Order beyond → (l : Line) (t : Loads) → Mild l → t.lane ≤ 6 → (c : Sign) → ((d : ℤ) → fills c d ≡ beyond d (pos 0)) → (u : ℤ) (p : LanePlace) → u ≡ pos (112 * t.lane) *ℤ areas l (gains beyond l) →
    p ≡ record { code = code.Light; a = pos 0; z = pos 0; sign = c } → Reaches beyond l t (Kind t false) u p
light_reaches {beyond} o l t m j c fit u p eu ep =
    rw ep record { furthest = light_worst o l t c fit u eu; unused = (refl, refl); small = rw eu (le_trans (lane_part l t.lane (gains beyond l) m j) (lit≤ tt)) }
