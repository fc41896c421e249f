-- What the sources of fresh modules say, and where it goes.
use Rattle.std.proofs.Common.{◌≡◌, ℕ, zero, suc, ◌+◌, ◌<◌, Bool, true, false, cond, List, [], ◌∷◌, ◌++◌, map, length, take, get_or, slice_get, Some, None, refl, sym, ap, ◌∙◌, subst, arith}
use Rattle.std.specs.List.{AllZip}
use Rattle.std.proofs.lemmas.List.{map-append}
use Rattle.std.proofs.lemmas.List.Sums.{sum_by-cons}
use Rattle.flow_base.specs.Program.{Bytes}
use Rattle.heap_core.proofs.Lists.{get_index}
use Rattle.check_values.specs.declared.root.RootRow.{RootRow}
use Rattle.export_counts.specs.source_front.specs.Front.{IsParse}
use Rattle.export_counts.specs.source_front.specs.declared.parse.Parse.{Parse}
use Rattle.check_phases.proofs.Fronts.{SayTheirs}
use Rattle.check_phases.proofs.Lists.{one_value}
use Rattle.recheck_sources.specs.Keeping.{where_on}
use Rattle.recheck_sources.proofs.Counted.{ons}

-- one more flag
one_more : (b : Bool) (flags : List Bool) → ons (b ∷ flags) ≡ cond b 1 0 + ons flags
one_more b flags = sum_by-cons (λ (on : Bool). cond on 1 0) b flags

module _ {X : Type 0} where
  -- one more element
  where_more : (flags : List Bool) (xs : List X) (i : ℕ) (x : X) → i < length flags → slice_get xs i ≡ Some x → where_on (take (i + 1) flags) (take (i + 1) xs) ≡ where_on (take i flags) (take i xs) ++ cond (get_or flags i false) (x ∷ []) []
  where_more [] xs i x low at = absurd (omega arith)
  where_more (b ∷ flags) [] i x low at = absurd (let z : None ≡ Some x = at in cc)
  where_more (true ∷ flags) (y ∷ xs) zero x low at = ap (λ (z : X). z ∷ []) (one_value y x at)
  where_more (false ∷ flags) (y ∷ xs) zero x low at = refl
  where_more (true ∷ flags) (y ∷ xs) (suc i) x low at = let n : suc i + 1 ≡ suc (i + 1) = omega arith in rw n (ap (λ (l : List X). y ∷ l) (where_more flags xs i x (omega arith) at))
  where_more (false ∷ flags) (y ∷ xs) (suc i) x low at = let n : suc i + 1 ≡ suc (i + 1) = omega arith in rw n (where_more flags xs i x (omega arith) at)

  -- there are as many as flags that are on
  many_on : (flags : List Bool) (xs : List X) → length flags ≡ length xs → length (where_on flags xs) ≡ ons flags
  many_on [] xs many = refl
  many_on (b ∷ flags) [] many = absurd (omega (arith, many))
  many_on (true ∷ flags) (x ∷ xs) many = let rest = many_on flags xs (omega (arith, many)) in let n = one_more true flags in omega (arith, rest, n)
  many_on (false ∷ flags) (x ∷ xs) many = let rest = many_on flags xs (omega (arith, many)) in let n = one_more false flags in omega (arith, rest, n)

  -- an element stands behind as many as there are such flags before it
  pub on_at : (flags : List Bool) (xs : List X) (i : ℕ) (x : X) → i < length flags → get_or flags i false ≡ true → slice_get xs i ≡ Some x → slice_get (where_on flags xs) (ons (take i flags)) ≡ Some x
  on_at [] xs i x low on at = absurd (omega arith)
  on_at (b ∷ flags) [] i x low on at = absurd (let z : None ≡ Some x = at in cc)
  on_at (true ∷ flags) (y ∷ xs) zero x low on at = at
  on_at (false ∷ flags) (y ∷ xs) zero x low on at = absurd (let z : false ≡ true = on in cc)
  on_at (true ∷ flags) (y ∷ xs) (suc i) x low on at =
      let n : ons (true ∷ take i flags) ≡ suc (ons (take i flags)) = (let m = one_more true (take i flags) in omega (arith, m)) in
      subst (λ (k : ℕ). slice_get (y ∷ where_on flags xs) k ≡ Some x) (sym n) (on_at flags xs i x (omega arith) on at)
  on_at (false ∷ flags) (y ∷ xs) (suc i) x low on at =
      let n : ons (false ∷ take i flags) ≡ ons (take i flags) = (let m = one_more false (take i flags) in omega (arith, m)) in
      subst (λ (k : ℕ). slice_get (where_on flags xs) k ≡ Some x) (sym n) (on_at flags xs i x (omega arith) on at)

-- ---- the texts that are read

abbrev texts_of : List RootRow → List Bytes
texts_of ms = map (λ (m : RootRow). m.text) ms

pub texts_more : (flags : List Bool) (ms : List RootRow) (i : ℕ) (m : RootRow) (old new : List Bytes) → i < length ms → length flags ≡ length ms → m ≡ get_or ms i m
    → old ≡ map (λ (m : RootRow). m.text) (where_on (take i flags) (take i ms)) → new ≡ old ++ cond (get_or flags i false) (m.text ∷ []) [] → new ≡ map (λ (m : RootRow). m.text) (where_on (take (i + 1) flags) (take (i + 1) ms))
texts_more flags ms i m old new low many is so_far pushed =
    pushed ∙ ((λ j. so_far j ++ one (get_or flags i false) j) ∙ (sym (map-append (λ (r : RootRow). r.text) (where_on (take i flags) (take i ms)) (cond (get_or flags i false) (m ∷ []) []))
    ∙ ap texts_of (sym (where_more flags ms i m (omega (arith, low, many)) (get_index ms i m low is)))))
  where
    one : (b : Bool) → cond b (m.text ∷ []) [] ≡ texts_of (cond b (m ∷ []) [])
    one true = refl
    one false = refl

pub many_texts : (flags : List Bool) (ms : List RootRow) (texts jobs : List Bytes) → length flags ≡ length ms → texts ≡ map (λ (m : RootRow). m.text) (where_on flags ms) → jobs ≡ texts → length jobs ≡ ons flags
many_texts flags ms texts jobs many is same = ap length (same ∙ is) ∙ (long (where_on flags ms) ∙ many_on flags ms many)
  where
    long : (rows : List RootRow) → length (texts_of rows) ≡ length rows
    long [] = refl
    long (r ∷ rows) = ap suc (long rows)

-- what the texts say is what the modules say
pub said_of : (flags : List Bool) (ms : List RootRow) (texts jobs : List Bytes) (said all : List Parse) → texts ≡ map (λ (m : RootRow). m.text) (where_on flags ms) → jobs ≡ texts → AllZip (λ text parse. IsParse text parse) jobs said → all ≡ said
    → SayTheirs (where_on flags ms) all
said_of flags ms texts jobs said all is same each shared =
    subst (λ (ps : List Parse). SayTheirs (where_on flags ms) ps) (sym shared) (go (where_on flags ms) said (subst (λ (l : List Bytes). AllZip (λ text parse. IsParse text parse) l said) (same ∙ is) each))
  where
    go : (rows : List RootRow) (ps : List Parse) → AllZip (λ text parse. IsParse text parse) (texts_of rows) ps → SayTheirs rows ps
    go [] [] each = tt
    go [] (p ∷ ps) each = absurd each
    go (r ∷ rows) [] each = absurd each
    go (r ∷ rows) (p ∷ ps) each = (each.0, go rows ps each.1)
