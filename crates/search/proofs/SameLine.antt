-- Two lines of one length and with the same ordinates have the same effects.
use Rattle.std.proofs.Common.{◌≡◌, ℕ, zero, suc, ◌+◌, ◌*◌, Bool, cond, not, ◌&&◌, List, [], ◌∷◌, ℤ, pos, ◌+ℤ◌, ◌*ℤ◌, sym, refl, ap, ◌∙◌}
use Rattle.lines.specs.Lines.{Line}
use Rattle.lines.specs.Cells.{double_area, under, areas, block}
use Rattle.loads.specs.declared.load_sets.Loads.{Loads}
use Rattle.loads.specs.declared.load_sets.Spread.{Spread}
use Rattle.loads.specs.Loads.{Load, axles, vehicle, train, light, weights, at_axles, spread_effect, axle_effect, lane_effect}
use Rattle.loads.specs.Decks.{heavy, Placed}
use Rattle.traffic.specs.declared.records.Code.{Code}
use Rattle.traffic.specs.declared.records.Code.TheVariants as code
use Rattle.traffic.specs.declared.records.Sign.{Sign}
use Rattle.traffic.specs.Records.{fills, of_sign, beside_train, load_of}
use Rattle.lane_search.specs.declared.places.LanePlace.{LanePlace}
use Rattle.lane_search.specs.Places.{load_at, Kind, Reaches}
use Rattle.lane_search.specs.Readings.{Alike}
use Rattle.lane_search.proofs.Sets.{under_alike}

both : {a b c d : ℤ} → a ≡ b → c ≡ d → a +ℤ c ≡ b +ℤ d
both {b = b} {c = c} e f = ap (λ (z : ℤ). z +ℤ c) e ∙ ap (λ (z : ℤ). b +ℤ z) f

scaled : (n : ℕ) {a b : ℤ} → a ≡ b → pos n *ℤ a ≡ pos n *ℤ b
scaled n e = ap (λ (z : ℤ). pos n *ℤ z) e

module _ (l m : Line) (alike : Alike l m) where
  double_same : (k : ℕ) → double_area l k ≡ double_area m k
  double_same k = both (alike.at (pos k)) (alike.at (pos (k + 1)))

  under_line : (set : ℕ → Bool) (n : ℕ) → under l set n ≡ under m set n
  unfolding under
  under_line set zero = refl
  under_line set (suc n) = both (under_line set n) (ap (λ (z : ℤ). cond (set n) z (pos 0)) (double_same n))

  areas_same : (set : ℕ → Bool) → areas l set ≡ areas m set
  areas_same set = under_line set l.len ∙ ap (under m set) alike.len

  axles_same : (d : ℕ) (a : ℤ) (ws : List ℕ) → at_axles l d a ws ≡ at_axles m d a ws
  axles_same d a [] = refl
  axles_same d a (w ∷ ws) = both (scaled w (alike.at a)) (axles_same d (a +ℤ pos d) ws)

  block_same : (s : Spread) (weight : ℕ) (a z : ℤ) → spread_effect l s a +ℤ axle_effect l weight z ≡ spread_effect m s a +ℤ axle_effect m weight z
  block_same s weight a z = both (scaled _ (areas_same (block a s.length))) (scaled (224000 * weight) (alike.at z))

  -- a sign fills the same cells
  filled_same : (s : Sign) (k : ℕ) → of_sign l s k ≡ of_sign m s k
  filled_same s k = ap (fills s) (double_same k)

  beside_same : (n : ℕ) (s : Sign) (a : ℤ) (k : ℕ) → beside_train l n s a k ≡ beside_train m n s a k
  beside_same n s a k = ap (λ (b : Bool). not (block a n k) && b) (filled_same s k)

  code_effect : (t : Loads) (c : Code) (a z : ℤ) (s : Sign) → lane_effect m t (load_of l t c a z s) ≡ lane_effect m t (load_of m t c a z s)
  code_effect t code.Light a z s = scaled (112 * t.lane) (under_alike m (of_sign l s) (of_sign m s) m.len (filled_same s))
  code_effect t (code.Axles g) a z s = refl
  code_effect t code.Vehicle a z s = refl
  code_effect t code.Train a z s =
      both refl (scaled (112 * t.lane) (under_alike m (beside_train l t.train.length s a) (beside_train m t.train.length s a) m.len (beside_same t.train.length s a)))

  code_placed : (t : Loads) (c : Code) (a z : ℤ) (s : Sign) → Placed t (load_of l t c a z s) → Placed t (load_of m t c a z s)
  code_placed t code.Light a z s h = tt
  code_placed t (code.Axles g) a z s h = h
  code_placed t code.Vehicle a z s h = h
  code_placed t code.Train a z s h = (h.0, h.1, λ k e. h.2 k (beside_same t.train.length s a k ∙ e))

  code_kind : (t : Loads) (c : Code) (a z : ℤ) (s : Sign) → heavy (load_of l t c a z s) ≡ heavy (load_of m t c a z s)
  code_kind t code.Light a z s = refl
  code_kind t (code.Axles g) a z s = refl
  code_kind t code.Vehicle a z s = refl
  code_kind t code.Train a z s = refl

effect_alike : (l m : Line) (t : Loads) → Alike l m → (x : Load) → lane_effect l t x ≡ lane_effect m t x
effect_alike l m t alike (axles g a) = scaled 224000 (axles_same l m alike t.spacing a (weights t g))
effect_alike l m t alike (vehicle a z) = block_same l m alike t.vehicle t.extra a z
effect_alike l m t alike (train a z set) = both (block_same l m alike t.train t.extra a z) (scaled (112 * t.lane) (areas_same l m alike set))
effect_alike l m t alike (light set) = scaled (112 * t.lane) (areas_same l m alike set)

-- a place stands for loads of one effect and one kind on both
place_alike : (l m : Line) (t : Loads) → Alike l m → (p : LanePlace) →
    (lane_effect l t (load_at l t p) ≡ lane_effect m t (load_at m t p)) × (Placed t (load_at l t p) → Placed t (load_at m t p)) × (heavy (load_at l t p) ≡ heavy (load_at m t p))
place_alike l m t alike p = (
  effect_alike l m t alike (load_at l t p) ∙ code_effect l m alike t p.code p.a p.z p.sign,
  code_placed l m alike t p.code p.a p.z p.sign,
  code_kind l m alike t p.code p.a p.z p.sign,
)

pub reaches_alike : {beyond : ℤ → ℤ → Bool} (l m : Line) (t : Loads) (h : Bool) (s : ℤ) (p : LanePlace) → Alike l m → Reaches beyond l t (Kind t h) s p → Reaches beyond m t (Kind t h) s p
reaches_alike {beyond = beyond} l m t h s p alike r =
    let same = place_alike l m t alike p in
    record {
      furthest = record {
        within = (sym same.2 ∙ r.furthest.within.0, same.1 r.furthest.within.1);
        reached = r.furthest.reached ∙ same.0;
        none = λ x k. ap (λ (z : ℤ). beyond z s) (sym (effect_alike l m t alike x)) ∙ r.furthest.none x k;
      };
      unused = r.unused;
      small = r.small;
    }
