-- Which components an edit leaves as they were, as the code finds them.
use Rattle.std.proofs.Common.{◌≡◌, ◌≢◌, ℕ, zero, suc, ◌+◌, ◌<◌, ◌≤◌, Bool, true, false, not, List, [], ◌∷◌, ◌++◌, All, IsTrue, ◌↔◌, map, length, take, set, replicate, get_or, slice_get, Option, Some, None, refl, sym, ap, ◌∙◌, subst, arith, length-set}
use Rattle.std.specs.Prelude.{is_some, if◌then◌else◌}
use Rattle.std.specs.List.{AllZip, list_all}
use Rattle.std.proofs.lemmas.Bool.{and_parts}
use Rattle.std.proofs.lemmas.List.{length-replicate}
use Rattle.std.proofs.lemmas.List.Sums.{sum_by-cons}
use mathlib.Core.Logic.{dite}
use native.Mathlib.Decide.{ℕ_discrete}
use Rattle.heap_core.specs.Meaning.{names}
use Rattle.graph_search.proofs.Fills.{get-replicate}
use Rattle.heap_core.proofs.Lists.{get_there, put_here, put_else}
use Rattle.check_values.specs.declared.signatures.Sig.{Sig}
use Rattle.graph_search.specs.Cycles.{Has}
use Rattle.merged_signatures.specs.Settled.{AJobTellsTheProgram}
use Rattle.check_phases.specs.analyst.specs.Work.{Work, merging, IsWithin}
use Rattle.check_phases.proofs.Lists.{one_value, within_there, value_at, place_at, zip_length}
use Rattle.check_phases.proofs.Waves.{named_has, has_named}
use Rattle.recheck_merging.specs.Plans.{numbers_at, edges_at, size_of, members_of}
use Rattle.recheck_merging.specs.Keeping.{kept_in, AreKept}
use Rattle.recheck_merging.specs.Merging.{IsSigAt, AreSigsOf, AreMergedTo}
use Rattle.recheck_merging.specs.Still.{IsEdit, HasOld, AreOld, is_still, are_still, is_kept, TellsKept, lacking, anew}
use Rattle.recheck_merging.specs.declared.planning.MergePlan.{MergePlan}
use Rattle.recheck_merging.specs.declared.still.Edit.{Edit}
use Rattle.recheck_merging.proofs.Groups.{number_place, ready_now}
use Rattle.recheck_merging.proofs.Keeps.{old_number, signed_at}
use Rattle.recheck_merging.proofs.Mapped.{mapped_from, all_has, has_all}
use Rattle.recheck_merging.proofs.Merged.{map_last, zip_at}
use Rattle.recheck_merging.proofs.OldJobs.{kept_signs}

-- ---- flags

pub list_each : {A : Type 0} (test : A → Bool) (xs : List A) (i : ℕ) (x : A) → list_all test xs ≡ true → slice_get xs i ≡ Some x → test x ≡ true
list_each test [] i x all at = absurd (let z : None ≡ Some x = at in cc)
list_each test (y ∷ xs) zero x all at = subst (λ z. test z ≡ true) (one_value y x at) (and_parts (test y) (list_all test xs) all).0
list_each test (y ∷ xs) (suc i) x all at = list_each test xs i x (and_parts (test y) (list_all test xs) all).1 at

pub on_at : (flags : List Bool) (y : ℕ) → get_or flags y false ≡ true → slice_get flags y ≡ Some true
on_at [] y on = absurd (let z : false ≡ true = on in cc)
on_at (b ∷ flags) zero on = ap Some on
on_at (b ∷ flags) (suc y) on = on_at flags y on

-- ---- a component that is left as it was

module _ (e : Edit) (is : IsEdit e) (same : List Bool) (k : ℕ) (places : List ℕ) (at : slice_get e.plan.now.components k ≡ Some places) (still : are_still e.touched.now same e.plan.now places ≡ true) where
  abbrev p : MergePlan
  p = e.plan.now

  pub at_place : (i : ℕ) → Has places i → (not (get_or e.touched.now (get_or p.merged i 0) true) ≡ true) × (list_all (λ y. get_or same y false) (get_or p.edges.items i []) ≡ true)
  at_place i has = and_parts (not (get_or e.touched.now (get_or p.merged i 0) true)) (list_all (λ y. get_or same y false) (get_or p.edges.items i [])) (list_each (is_still e.touched.now same p) places has.0 i still has.1)

  -- none of its members is touched
  pub calm : (x : ℕ) → Has (numbers_at p.merged places) x → ¬ (Has is.numbers x)
  calm x has touched =
      let i = number_place e.sources.now p is.plan k places at x has in
      let off = (at_place i.0 i.1).0 in
      let on : get_or e.touched.now x true ≡ true = sym (value_at e.touched.now x true true (is.marks.turned x touched)) in
      let same_number : x ≡ get_or p.merged i.0 0 = value_at p.merged i.0 x 0 i.2 in
      let z : not true ≡ true = ap not (sym (ap (λ (n : ℕ). get_or e.touched.now n true) (sym same_number) ∙ on)) ∙ off in
      let w : false ≡ true = z in
      let f : ⊥ = cc in f

  -- and what they import has its old signature, where it has one
  pub olds : (made : List (Option Sig)) → AreOld e.was.now.signatures.items e.from.now made same → (i j : ℕ) (ys : List ℕ) (y : ℕ) (sig : Sig) → slice_get (edges_at p.edges.items places) i ≡ Some ys → slice_get ys j ≡ Some y → slice_get made y ≡ Some (Some sig)
      → kept_in e.was.now.signatures.items (get_or e.from.now y None) ≡ Some sig
  olds made old i j ys y sig at_i at_j there =
      let l = mapped_from (λ (n : ℕ). get_or p.edges.items n []) places i ys at_i in
      let on = (at_place l.0 (i, l.1)).1 in
      (old.old y sig true (on_at same y (list_each (λ (n : ℕ). get_or same n false) (get_or p.edges.items l.0 []) j y on (ap (λ (zs : List ℕ). slice_get zs j) (sym l.2) ∙ at_j))) there).0 refl

  pub has_old : (x : ℕ) → Has (numbers_at p.merged places) x → x < length e.sources.now.root.modules → HasOld e.was.now.signatures.items e.from.now x
  has_old x has low =
      let o = old_number e.was.now.sources e.sources.now is.made.sources is.sources e.from.now is.numbers is.come is.touched x low (calm x has) in
      let comes = is.come.comes x o.0 o.1 in
      let signed = signed_at e.was.now is.made o.0 comes.0 comes.1 in
      (signed.0, ap (kept_in e.was.now.signatures.items) (sym (value_at e.from.now x (Some o.0) None o.1)) ∙ signed.1)

-- as the code has its signatures
pub component_signed : AJobTellsTheProgram → (e : Edit) → IsEdit e → (same : List Bool) (made : List (Option Sig)) (wave n : ℕ) (places group : List ℕ) (own : List Sig) → wave < length e.plan.now.waves → n < length (get_or e.plan.now.waves wave [])
    → slice_get e.plan.now.components (get_or (get_or e.plan.now.waves wave []) n 0) ≡ Some places → are_still e.touched.now same e.plan.now places ≡ true → AreMergedTo e.sources.now e.plan.now wave made → AreOld e.was.now.signatures.items e.from.now made same
    → group ≡ numbers_at e.plan.now.merged places → AllZip (λ x sig. kept_in e.was.now.signatures.items (get_or e.from.now x None) ≡ Some sig) group own → AreSigsOf e.sources.now e.plan.now (get_or (get_or e.plan.now.waves wave []) n 0) own
component_signed tells e is same made wave n places group own low_wave low at still merged old is_group all =
    let p = e.plan.now in
    let ks = get_or p.waves wave [] in
    let k = get_or ks n 0 in
    let ready = ready_now e.sources.now p wave n k ks places made is.sources is.plan (place_at p.waves wave [] low_wave) (place_at ks n 0 low) at merged in
    let signs = kept_signs e is made (numbers_at p.merged places) (edges_at p.edges.items places) merged.right ready (calm e is same k places at still) (olds e is same k places at still made old) tells own
    (subst (λ (l : List ℕ). AllZip (λ x sig. kept_in e.was.now.signatures.items (get_or e.from.now x None) ≡ Some sig) l own) is_group all) in
    subst (λ (l : List ℕ). AllZip (IsSigAt e.sources.now) l own) (ap (numbers_at p.merged) (value_at p.components k places [] at)) signs

pub group_old : (e : Edit) → IsEdit e → (same : List Bool) (k : ℕ) (places group : List ℕ) → slice_get e.plan.now.components k ≡ Some places → are_still e.touched.now same e.plan.now places ≡ true → group ≡ numbers_at e.plan.now.merged places
    → All (λ x. x < length e.sources.now.root.modules) group → All (λ x. HasOld e.was.now.signatures.items e.from.now x) group
group_old e is same k places group at still is_group low = has_all (λ (x : ℕ). HasOld e.was.now.signatures.items e.from.now x) group (λ x has.
    has_old e is same k places at still x (subst (λ (l : List ℕ). Has l x) is_group has) (all_has (λ (y : ℕ). y < length e.sources.now.root.modules) group low x has))

-- each was there
pub group_from : (e : Edit) → IsEdit e → (group : List ℕ) → All (λ x. x < length e.sources.now.root.modules) group → All (λ x. x < length e.from.now) group
group_from e is group low = has_all (λ (x : ℕ). x < length e.from.now) group (λ x has. let l = all_has (λ (y : ℕ). y < length e.sources.now.root.modules) group low x has in let many = is.come.many in omega arith)

pub tells_kept : {X : Type 0} (touched same : List Bool) (p : MergePlan) (k : ℕ) (places : List ℕ) (o : Option X) (b : Bool) → slice_get p.components k ≡ Some places → b ≡ are_still touched same p places → is_some o ≡ b → TellsKept touched same p k o
tells_kept touched same p k places o b at is tells = tells ∙ (is ∙ ap (are_still touched same p) (value_at p.components k places [] at))

-- ---- which signatures are the old ones

-- one more signature is made
pub old_set : (was : List Sig) (from : List (Option ℕ)) (made : List (Option Sig)) (same : List Bool) (x : ℕ) (sig : Sig) (b : Bool) → AreOld was from made same → x < length made → IsTrue b ↔ (kept_in was (get_or from x None) ≡ Some sig)
    → AreOld was from (set made x (Some sig)) (set same x b)
old_set was from made same x sig b old low is_old = record {
  many = length-set same x b ∙ (old.many ∙ sym (length-set made x (Some sig)));
  old = λ y other flag on there. dite (ℕ_discrete y x)
      (λ (here : y ≡ x).
      let same_flag : b ≡ flag = one_value b flag (sym (put_here same x b small) ∙ (ap (slice_get (set same x b)) (sym here) ∙ on)) in
      let mine : Some sig ≡ Some other = one_value (Some sig) (Some other) (sym (put_here made x (Some sig) low) ∙ (ap (slice_get (set made x (Some sig))) (sym here) ∙ there)) in
      let numbers : kept_in was (get_or from y None) ≡ kept_in was (get_or from x None) = ap (λ (n : ℕ). kept_in was (get_or from n None)) here in
      (λ is_on. numbers ∙ (is_old.0 (same_flag ∙ is_on) ∙ mine), λ kept. sym same_flag ∙ is_old.1 (sym numbers ∙ (kept ∙ sym mine))))
      (λ (ne : y ≢ x). old.old y other flag (sym (put_else same x y b ne) ∙ on) (sym (put_else made x y (Some sig) ne) ∙ there));
  yet = λ y none. dite (ℕ_discrete y x)
      (λ (here : y ≡ x).
      let mine : Some sig ≡ None = one_value (Some sig) None (sym (put_here made x (Some sig) low) ∙ (ap (slice_get (set made x (Some sig))) (sym here) ∙ none)) in
      absurd (let z : Some sig ≡ None = mine in cc))
      (λ (ne : y ≢ x). put_else same x y b ne ∙ old.yet y (sym (put_else made x y (Some sig) ne) ∙ none));
}
  where
    small : x < length same
    small = (let many = old.many in omega arith)

-- at first all that are made are
pub kept_are_old : (was : List Sig) (from : List (Option ℕ)) (merged : List ℕ) (made : List (Option Sig)) (same : List Bool) → AreKept was from merged made → same ≡ replicate (length made) true → AreOld was from made same
kept_are_old was from merged made same kept all = record {
  many = many;
  old = λ x sig b on there. (λ is_on. go x sig there (names merged x) refl, λ is. is_true x b on);
  yet = λ x none. let flag = get_there same x (let low = within_there made x None none in omega (arith, many, low)) in flag.1 ∙ ap Some (is_true x flag.0 flag.1);
}
  where
    many : length same ≡ length made
    many = ap length all ∙ length-replicate (length made) true

    is_true : (x : ℕ) (b : Bool) → slice_get same x ≡ Some b → b ≡ true
    is_true x b on = get-replicate (length made) x true b (ap (λ (l : List Bool). slice_get l x) (sym all) ∙ on)

    go : (x : ℕ) (sig : Sig) → slice_get made x ≡ Some (Some sig) → (b : Bool) → names merged x ≡ b → kept_in was (get_or from x None) ≡ Some sig
    go x sig there true named =
        let none = kept.anew x (let low = within_there made x (Some sig) there in let m = kept.many in omega arith) (named_has merged x named) in
        absurd (let z : None ≡ Some sig = one_value None (Some sig) (sym none ∙ there) in cc)
    go x sig there false apart =
        let low : x < length from = (let l = within_there made x (Some sig) there in let m = kept.many in omega arith) in
        one_value (kept_in was (get_or from x None)) (Some sig) (sym (kept.kept x (get_or from x None) (place_at from x None low) (λ has. let z : false ≡ true = sym apart ∙ has_named merged x has in cc)) ∙ there)

-- ---- components for which nothing is there

length_last : (xs : List ℕ) (x : ℕ) → length (xs ++ x ∷ []) ≡ length xs + 1
length_last [] x = refl
length_last (y ∷ xs) x = let rest = length_last xs x in omega (arith, rest)

module _ {X : Type 0} where
  -- as code asks whether something is there
  pub none_there : (o : Option X) (b : Bool) → is_some o ≡ not b → b ≡ true → o ≡ None
  none_there None b tells on = refl
  none_there (Some x) b tells on = absurd (let z : true ≡ false = tells ∙ ap not on in cc)

  pub some_there : (o : Option X) (b : Bool) → is_some o ≡ not b → b ≡ false → (x : X) × (o ≡ Some x)
  some_there None b tells off = absurd (let z : false ≡ true = tells ∙ ap not off in cc)
  some_there (Some x) b tells off = (x, refl)

  pub lacking_more : (ks : List ℕ) (os : List (Option X)) (i : ℕ) → i < length ks → slice_get os i ≡ Some None → lacking (take (i + 1) ks) (take (i + 1) os) ≡ lacking (take i ks) (take i os) ++ get_or ks i 0 ∷ []
  lacking_more [] os i low at = absurd (omega arith)
  lacking_more (k ∷ ks) [] i low at = absurd (let z : None ≡ Some None = at in cc)
  lacking_more (k ∷ ks) (None ∷ os) zero low at = refl
  lacking_more (k ∷ ks) (Some x ∷ os) zero low at = absurd (let z : Some x ≡ None = one_value (Some x) None at in cc)
  lacking_more (k ∷ ks) (None ∷ os) (suc i) low at = let n : suc i + 1 ≡ suc (i + 1) = omega arith in rw n (ap (λ (l : List ℕ). k ∷ l) (lacking_more ks os i (omega arith) at))
  lacking_more (k ∷ ks) (Some x ∷ os) (suc i) low at = let n : suc i + 1 ≡ suc (i + 1) = omega arith in rw n (lacking_more ks os i (omega arith) at)

  pub lacking_less : (ks : List ℕ) (os : List (Option X)) (i : ℕ) (x : X) → i < length ks → slice_get os i ≡ Some (Some x) → lacking (take (i + 1) ks) (take (i + 1) os) ≡ lacking (take i ks) (take i os)
  lacking_less [] os i x low at = absurd (omega arith)
  lacking_less (k ∷ ks) [] i x low at = absurd (let z : None ≡ Some (Some x) = at in cc)
  lacking_less (k ∷ ks) (None ∷ os) zero x low at = absurd (let z : None ≡ Some x = one_value None (Some x) at in cc)
  lacking_less (k ∷ ks) (Some y ∷ os) zero x low at = refl
  lacking_less (k ∷ ks) (None ∷ os) (suc i) x low at = let n : suc i + 1 ≡ suc (i + 1) = omega arith in rw n (ap (λ (l : List ℕ). k ∷ l) (lacking_less ks os i x (omega arith) at))
  lacking_less (k ∷ ks) (Some y ∷ os) (suc i) x low at = let n : suc i + 1 ≡ suc (i + 1) = omega arith in rw n (lacking_less ks os i x (omega arith) at)

  -- one more of what is made of each, as the loop has it
  pub made_more : {A B : Type 0} (view : A → B) (f : ℕ → B) (ks : List ℕ) (os : List (Option X)) (i : ℕ) (x : A) (old new : List A) → i < length ks → slice_get os i ≡ Some None → view x ≡ f (get_or ks i 0)
      → map view old ≡ map f (lacking (take i ks) (take i os)) → new ≡ old ++ x ∷ [] → map view new ≡ map f (lacking (take (i + 1) ks) (take (i + 1) os))
  made_more view f ks os i x old new low at is so_far pushed =
      ap (map view) pushed ∙ (map_last view old x ∙ ((λ j. so_far j ++ is j ∷ []) ∙ (sym (map_last f (lacking (take i ks) (take i os)) (get_or ks i 0)) ∙ ap (map f) (sym (lacking_more ks os i low at)))))

  pub made_less : {A B : Type 0} (view : A → B) (f : ℕ → B) (ks : List ℕ) (os : List (Option X)) (i : ℕ) (o : X) (old : List A) → i < length ks → slice_get os i ≡ Some (Some o)
      → map view old ≡ map f (lacking (take i ks) (take i os)) → map view old ≡ map f (lacking (take (i + 1) ks) (take (i + 1) os))
  made_less view f ks os i o old low at so_far = so_far ∙ ap (map f) (sym (lacking_less ks os i o low at))

  -- the one that lacks next
  pub lacking_at : (ks : List ℕ) (os : List (Option X)) (i : ℕ) → i < length ks → slice_get os i ≡ Some None → slice_get (lacking ks os) (length (lacking (take i ks) (take i os))) ≡ Some (get_or ks i 0)
  lacking_at [] os i low at = absurd (omega arith)
  lacking_at (k ∷ ks) [] i low at = absurd (let z : None ≡ Some None = at in cc)
  lacking_at (k ∷ ks) (None ∷ os) zero low at = refl
  lacking_at (k ∷ ks) (Some x ∷ os) zero low at = absurd (let z : Some x ≡ None = one_value (Some x) None at in cc)
  lacking_at (k ∷ ks) (None ∷ os) (suc i) low at = lacking_at ks os i (omega arith) at
  lacking_at (k ∷ ks) (Some x ∷ os) (suc i) low at = lacking_at ks os i (omega arith) at

  pub next_more : (ks : List ℕ) (os : List (Option X)) (i n : ℕ) → i < length ks → slice_get os i ≡ Some None → n ≡ length (lacking (take i ks) (take i os)) → n + 1 ≡ length (lacking (take (i + 1) ks) (take (i + 1) os))
  next_more ks os i n low at is = let more = ap length (lacking_more ks os i low at) in let last = length_last (lacking (take i ks) (take i os)) (get_or ks i 0) in omega (arith, is, more, last)

  -- what is made of it is the next one
  pub next_low : {A : Type 0} (R : ℕ → A → Type 0) (ks : List ℕ) (os : List (Option X)) (all : List A) (i n : ℕ) → i < length ks → slice_get os i ≡ Some None → n ≡ length (lacking (take i ks) (take i os)) → AllZip R (lacking ks os) all → n < length all
  next_low R ks os all i n low at is zip =
      let there = within_there (lacking ks os) (length (lacking (take i ks) (take i os))) (get_or ks i 0) (lacking_at ks os i low at) in
      let many = zip_length R (lacking ks os) all zip in
      omega (arith, is, there, many)

  pub next_made : {A : Type 0} (R : ℕ → A → Type 0) (ks : List ℕ) (os : List (Option X)) (all : List A) (i n : ℕ) (own : A) → i < length ks → slice_get os i ≡ Some None → n ≡ length (lacking (take i ks) (take i os)) → AllZip R (lacking ks os) all
      → slice_get all n ≡ Some own → R (get_or ks i 0) own
  next_made R ks os all i n own low at is zip there =
      let mine : slice_get (lacking ks os) n ≡ Some (get_or ks i 0) = ap (slice_get (lacking ks os)) is ∙ lacking_at ks os i low at in
      subst (λ (k : ℕ). R k own) (sym (value_at (lacking ks os) n (get_or ks i 0) 0 mine)) (zip_at R (lacking ks os) all n own zip there)

  -- each is one of all
  pub lacking_has : (ks : List ℕ) (os : List (Option X)) (n k : ℕ) → slice_get (lacking ks os) n ≡ Some k → (i : ℕ) × (slice_get ks i ≡ Some k)
  lacking_has [] os n k at = absurd (let z : None ≡ Some k = at in cc)
  lacking_has (j ∷ ks) [] n k at = absurd (let z : None ≡ Some k = at in cc)
  lacking_has (j ∷ ks) (None ∷ os) zero k at = (0, at)
  lacking_has (j ∷ ks) (None ∷ os) (suc n) k at = let it = lacking_has ks os n k at in (suc it.0, it.1)
  lacking_has (j ∷ ks) (Some x ∷ os) n k at = let it = lacking_has ks os n k at in (suc it.0, it.1)

  -- they are those that are merged anew
  pub lacking_anew : (touched same : List Bool) (p : MergePlan) (ks : List ℕ) (os : List (Option X)) → AllZip (TellsKept touched same p) ks os → lacking ks os ≡ anew touched same p ks
  lacking_anew touched same p [] [] all = refl
  lacking_anew touched same p [] (o ∷ os) all = absurd all
  lacking_anew touched same p (k ∷ ks) [] all = absurd all
  lacking_anew touched same p (k ∷ ks) (o ∷ os) all = go o (is_kept touched same p k) all.0 (lacking_anew touched same p ks os all.1)
    where
      go : (o : Option X) (b : Bool) → is_some o ≡ b → lacking ks os ≡ anew touched same p ks → lacking (k ∷ ks) (o ∷ os) ≡ (if not b then k ∷ anew touched same p ks else anew touched same p ks)
      go None false e rest = ap (λ (l : List ℕ). k ∷ l) rest
      go None true e rest = absurd (let z : false ≡ true = e in cc)
      go (Some x) true e rest = rest
      go (Some x) false e rest = absurd (let z : true ≡ false = e in cc)

  -- and have no more members than all
  pub lacking_few : (p : MergePlan) (ks : List ℕ) (os : List (Option X)) → members_of p (lacking ks os) ≤ members_of p ks
  lacking_few p [] os = omega arith
  lacking_few p (k ∷ ks) [] = omega arith
  lacking_few p (k ∷ ks) (None ∷ os) = let rest = lacking_few p ks os in omega (arith, rest, sum_by-cons (size_of p) k ks, sum_by-cons (size_of p) k (lacking ks os))
  lacking_few p (k ∷ ks) (Some x ∷ os) = let rest = lacking_few p ks os in omega (arith, rest, sum_by-cons (size_of p) k ks)

-- ---- work

-- no more than some of it is no more than all of it
pub within_most : (a b : ℕ) (before now : Work) → a ≤ b → IsWithin before now (merging a) → IsWithin before now (merging b)
within_most a b before now less within = record { fronts = within.fronts; merges = (within.merges.0, (let most = within.merges.1 in omega arith)); checks = within.checks }
