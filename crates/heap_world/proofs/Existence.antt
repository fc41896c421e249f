-- Each sound heap stands for a world: one whose states are all the committed one.
use Rattle.std.proofs.Common.{◌≡◌, ℕ, zero, suc, Bool, true, false, List, [], ◌∷◌, length, replicate, slice_get, refl, sym, ap, ◌∙◌, subst, arith, Some}
use Rattle.std.proofs.lemmas.List.{length-replicate}
use Rattle.heap_core.specs.Meaning.{Meaning, AllFit, IsSound, none_of}
use Rattle.heap_core.specs.PlainLaws.{none_some}
use Rattle.heap_world.specs.World.{PureWorld, last_state, Pends}
use Rattle.heap_world.specs.Stands.{pending_of, Stands}
use Rattle.heap_world.proofs.Lengths.{many_at}
use Rattle.heap_world.proofs.Numbers.{length-pending_of, pending_of-staged}

module _ {A : Type 0} where
  last_of_many : (n : ℕ) (x : List A) → last_state (replicate (suc n) x) ≡ x
  last_of_many zero x = refl
  last_of_many (suc n) x = last_of_many n x

none_true : (bs : List Bool) (e : ℕ) → slice_get (none_of bs) e ≡ Some true → ⊥
none_true [] e h = none_some true h
none_true (b ∷ bs) zero h = let z : Some false ≡ Some true = h in cc
none_true (b ∷ bs) (suc e) h = none_true bs e h

module _ {P : Type 0} where
  -- as many states as the version says, each of them the committed one
  abbrev pub still_world : Meaning P → PureWorld P
  still_world m = record {
    entities = length m.committed;
    lanes = 0;
    history = replicate (suc m.version) m.committed;
    versions = m.versions;
    is_open = m.is_open;
    drained = true;
    pending = pending_of m.staged m.latest;
    filled = [];
    published = replicate (length m.committed) false;
    pins = [];
  }

  pub stands_for_some : (fits : ℕ → P → ℕ → P → Type 0) (m : Meaning P) → IsSound fits m → (w : PureWorld P) × Stands fits m w
  stands_for_some fits m sound = (
    still_world m,
    record {
      lawful = record {
        lengths = record {
          some_state = let n = many in omega arith;
          states = λ v st h. ap length (sym (only v st h));
          versions = sound.as_many.1;
          pending = length-pending_of m.staged m.latest (sound.as_many.2 ∙ sym sound.as_many.0) ∙ sound.as_many.0;
          published = length-replicate (length m.committed) false;
          filled = refl;
          rows = λ n row h. none_some row h;
          pins = refl;
        };
        fit = λ v st h. subst (AllFit fits) (only v st h) sound.fit;
        stable = λ e n v st h. (let b = sound.bounded e n h in let k = many in omega arith, λ _ at. ap (λ (z : List P). slice_get z e) (sym (only v st at) ∙ sym (last_of_many m.version m.committed)));
        pins = λ n o h. none_some o h;
        drained = ((λ _. refl), (λ _. refl));
        pending = opens;
        filled = λ e n row h t. none_some row h;
        published = λ e h. absurd (let z : false ≡ true = many_at (length m.committed) e false true h in cc);
      };
      lanes = refl;
      last = last_of_many m.version m.committed;
      version = let k = many in omega arith;
      versions = refl;
      is_open = refl;
      pending = refl;
    },
  )
    where
      many : length (replicate (suc m.version) m.committed) ≡ suc m.version
      many = length-replicate (suc m.version) m.committed

      only : (v : ℕ) (st : List P) → slice_get (replicate (suc m.version) m.committed) v ≡ Some st → m.committed ≡ st
      only v st h = many_at (suc m.version) v m.committed st h

      opens : (e : ℕ) → Pends (still_world m) e → m.is_open ≡ true
      opens e p = by m.is_open refl
        where
          by : (b : Bool) → m.is_open ≡ b → m.is_open ≡ true
          by true is = is
          by false is = absurd (none_true m.staged e (ap (λ (l : List Bool). slice_get l e) (sym (sound.closed is)) ∙ pending_of-staged m.staged m.latest e p.0 p.1))
