-- Classes of slots that have no fact.
use Rattle.std.proofs.Common.{◌≡◌, Bool, true, false, not, ◌&&◌, ◌||◌, None, refl, sym, ap, ◌∙◌, if◌then◌else◌}
use Rattle.flow_facts.specs.Known.{is_constant_number}
use Rattle.fact_trail.specs.declared.slot.Slot.TheVariants.{Variable, Property}
use Rattle.fact_trail.specs.declared.slot.Slot.{Slot}
use Rattle.fact_trail.specs.Slots.{Map, is_variable, is_property}
use Rattle.fact_arms.specs.declared.gone.Gone.{Gone}
use Rattle.fact_arms.specs.Differences.{class_gone, is_among}

pub none_among : (g : Gone) → g.constants ≡ false → g.changing ≡ false → g.properties ≡ false → (s : Slot) → is_among g s ≡ false
none_among g constants changing properties (Property k) = properties
none_among g constants changing properties (Variable b) = at (is_constant_number b)
  where
    at : (t : Bool) → class_gone g t ≡ false
    at true = constants
    at false = changing

-- a class more
pub with_constants : (g h : Gone) → h.constants ≡ true → h.changing ≡ g.changing → h.properties ≡ g.properties → (s : Slot) → is_among h s ≡ (is_variable true s || is_among g s)
with_constants g h constants changing properties (Property k) = properties
with_constants g h constants changing properties (Variable b) = at (is_constant_number b)
  where
    at : (t : Bool) → class_gone h t ≡ (t || class_gone g t)
    at true = constants
    at false = changing

pub with_changing : (g h : Gone) → h.constants ≡ g.constants → h.changing ≡ true → h.properties ≡ g.properties → (s : Slot) → is_among h s ≡ (is_variable false s || is_among g s)
with_changing g h constants changing properties (Property k) = properties
with_changing g h constants changing properties (Variable b) = at (is_constant_number b)
  where
    at : (t : Bool) → class_gone h t ≡ (not t || class_gone g t)
    at true = constants
    at false = changing

pub with_properties_too : (g h : Gone) → h.constants ≡ g.constants → h.changing ≡ g.changing → h.properties ≡ true → (s : Slot) → is_among h s ≡ (is_property s || is_among g s)
with_properties_too g h constants changing properties (Property k) = properties
with_properties_too g h constants changing properties (Variable b) = at (is_constant_number b)
  where
    at : (t : Bool) → class_gone h t ≡ class_gone g t
    at true = constants
    at false = changing

-- the classes of two
pub among_either : (g h both : Gone) → both.constants ≡ (g.constants || h.constants) → both.changing ≡ (g.changing || h.changing) → both.properties ≡ (g.properties || h.properties) → (s : Slot) → is_among both s ≡ (is_among g s || is_among h s)
among_either g h both constants changing properties (Property k) = properties
among_either g h both constants changing properties (Variable b) = at (is_constant_number b)
  where
    at : (t : Bool) → class_gone both t ≡ (class_gone g t || class_gone h t)
    at true = constants
    at false = changing

-- a class that is among them
pub class_among : (g : Gone) (constant : Bool) → class_gone g constant ≡ true → (s : Slot) → is_variable constant s ≡ true → is_among g s ≡ true
class_among g constant gone (Property k) is = cc
class_among g true gone (Variable b) is = ap (class_gone g) is ∙ gone
class_among g false gone (Variable b) is = ap (class_gone g) (at (is_constant_number b) is) ∙ gone
  where
    at : (t : Bool) → not t ≡ true → t ≡ false
    at true is = cc
    at false is = refl

pub properties_among : (g : Gone) → g.properties ≡ true → (s : Slot) → is_property s ≡ true → is_among g s ≡ true
properties_among g gone (Property k) is = gone
properties_among g gone (Variable b) is = cc

-- the facts of the classes go, one class after the other
pub all_classes : (g : Gone) (a b c d : Map) → ((s : Slot) → b s ≡ (if is_variable true s && g.constants then None else a s)) → ((s : Slot) → c s ≡ (if is_variable false s && g.changing then None else b s)) →
    ((s : Slot) → d s ≡ (if is_property s && g.properties then None else c s)) → (s : Slot) → d s ≡ (if is_among g s then None else a s)
all_classes g a b c d one two three (Property k) = three (Property k) ∙ (λ i. if g.properties then None else (two (Property k) ∙ one (Property k)) i)
all_classes g a b c d one two three (Variable x) = three (Variable x) ∙ two (Variable x) ∙ at (is_constant_number x) refl
  where
    at : (t : Bool) → is_constant_number x ≡ t → (if not (is_constant_number x) && g.changing then None else b (Variable x)) ≡ (if class_gone g (is_constant_number x) then None else a (Variable x))
    at true t =
        ap (λ u. if not u && g.changing then None else b (Variable x)) t ∙ one (Variable x) ∙ ap (λ u. if u && g.constants then None else a (Variable x)) t
        ∙ sym (ap (λ u. if class_gone g u then None else a (Variable x)) t)
    at false t =
        ap (λ u. if not u && g.changing then None else b (Variable x)) t ∙ (λ i. if g.changing then None else (one (Variable x) ∙ ap (λ u. if u && g.constants then None else a (Variable x)) t) i)
        ∙ sym (ap (λ u. if class_gone g u then None else a (Variable x)) t)
