-- Lists keep what stands at a place as more comes behind.
use Rattle.std.proofs.Common.{◌≡◌, ℕ, zero, suc, ◌+◌, ◌<◌, List, [], ◌∷◌, ◌++◌, length, get_or, map, take, slice_get, Some, Contains, refl, sym, ap, ◌∙◌, append_assoc, arith, subst, Bool, true, false, nat_lt, length-append, ◌≤◌, inl, inr}
use Rattle.std.proofs.lemmas.List.{append-nil}
use Rattle.std.proofs.lemmas.List.Elements.{Contains-append_left, Contains-append_right}
use Rattle.std.proofs.lemmas.Grind.{common_steps}
use Rattle.type_values.specs.declared.types.FlowType.{FlowType}
use Rattle.alias_table.specs.Aliases.{Key}
use Rattle.subtyping.specs.Rows.{Pair, ways}
use Rattle.subtyping.specs.Numbered.{ways_of}
use Rattle.subtyping.specs.Collected.{Grows, StandFor, IsRow, AreRows}
use Rattle.subtyping.proofs.Whole.{split, first_or, nothing, here}
use Rattle.subtype_rules.specs.Terms.{Link, Adds, Extends, StandAt, IsLinkRow, IsLinkAdded, HasLostLink, InWays}

pub stays : {A : Type 0} (xs more : List A) (k : ℕ) (x : A) → slice_get xs k ≡ Some x → slice_get (xs ++ more) k ≡ Some x
stays [] more k x e = cc
stays (y ∷ xs) more zero x e = e
stays (y ∷ xs) more (suc k) x e = stays xs more k x e

pub last_at : {A : Type 0} (xs : List A) (x : A) → slice_get (xs ++ x ∷ []) (length xs) ≡ Some x
last_at [] x = refl
last_at (y ∷ xs) x = last_at xs x

pub within : {A : Type 0} (xs : List A) (k : ℕ) (x : A) → slice_get xs k ≡ Some x → k < length xs
within [] k x e = cc
within (y ∷ xs) zero x e = omega arith
within (y ∷ xs) (suc k) x e = let h = within xs k x e in omega (arith, h)

-- what stands at a place is there
pub there_at : {A : Type 0} (xs : List A) (k : ℕ) (x : A) → k < length xs → x ≡ get_or xs k x → slice_get xs k ≡ Some x
there_at [] k x h e = absurd (omega (arith, h))
there_at (y ∷ xs) zero x h e = ap Some (sym e)
there_at (y ∷ xs) (suc k) x h e = there_at xs k x (omega (arith, h)) e

any_default : {A : Type 0} (xs : List A) (k : ℕ) (d e : A) → k < length xs → get_or xs k d ≡ get_or xs k e
any_default [] k d e h = absurd (omega (arith, h))
any_default (x ∷ xs) zero d e h = refl
any_default (x ∷ xs) (suc k) d e h = any_default xs k d e (omega (arith, h))

pub here_at : {A : Type 0} (xs : List A) (k : ℕ) (d : A) → k < length xs → Contains xs (get_or xs k d)
here_at xs k d h = (k, h, any_default xs k (get_or xs k d) d h)

pub there_or : {A : Type 0} (all xs : List A) (k : ℕ) (d : A) → all ≡ xs → k < length xs → slice_get xs k ≡ Some (get_or all k d)
there_or {A = A} all xs k d e h = subst (λ (l : List A). slice_get xs k ≡ Some (get_or l k d)) (sym e) (there_at xs k (get_or xs k d) h (any_default xs k d (get_or xs k d) h))

-- ---- what comes behind

pub extends_none : {A : Type 0} (xs : List A) → Extends xs xs
extends_none xs = ([], sym (append-nil xs))

pub extends_one : {A : Type 0} (xs : List A) (x : A) → Extends xs (xs ++ x ∷ [])
extends_one xs x = (x ∷ [], refl)

pub extends_more : {A : Type 0} (a b c : List A) → Extends a b → Extends b c → Extends a c
extends_more a b c g h = (g.0 ++ h.0, h.1 ∙ ap (λ l. l ++ h.0) g.1 ∙ append_assoc a g.0 h.0)

pub at_stays : {A : Type 0} (old new : List A) (k : ℕ) (x : A) → Extends old new → slice_get old k ≡ Some x → slice_get new k ≡ Some x
at_stays old new k x g e = ap (λ l. slice_get l k) g.1 ∙ stays old g.0 k x e

pub adds_none : {A : Type 0} (P : A → Type 0) (xs : List A) → Adds P xs xs
adds_none P xs = ([], sym (append-nil xs), λ x c. nothing x c)

pub adds_one : {A : Type 0} (P : A → Type 0) (xs : List A) (x : A) → P x → Adds P xs (xs ++ x ∷ [])
adds_one P xs x p = (x ∷ [], refl, λ y c. elim (first_or x [] y c) [ inl is ↦ subst P is p | inr none ↦ nothing y none ])

pub adds_more : {A : Type 0} (P Q : A → Type 0) (a b c : List A) → Adds P a b → Adds Q b c → ((x : A) → Q x → P x) → Adds P a c
adds_more P Q a b c g h widen = (
  g.0 ++ h.0,
  h.1 ∙ ap (λ l. l ++ h.0) g.1 ∙ append_assoc a g.0 h.0,
  λ x c. elim (split g.0 h.0 x c) [ inl d ↦ g.2 x d | inr d ↦ widen x (h.2 x d) ],
)

pub adds_extends : {A : Type 0} (P : A → Type 0) (a b : List A) → Adds P a b → Extends a b
adds_extends P a b g = (g.0, g.1)

push_map : {A B : Type 0} (f : A → B) (xs : List A) (x : A) → map f (xs ++ x ∷ []) ≡ map f xs ++ f x ∷ []
push_map f [] x = refl
push_map f (y ∷ xs) x = ap (λ l. f y ∷ l) (push_map f xs x)

pub take_push : {A : Type 0} (xs : List A) (i : ℕ) (x : A) → i < length xs → x ≡ get_or xs i x → take (i + 1) xs ≡ take i xs ++ x ∷ []
take_push {A = A} xs i x h e = ap (λ n. take n xs) (up i) ∙ go xs i x h e
  where
    up : (i : ℕ) → i + 1 ≡ suc i
    up i = omega arith

    go : (xs : List A) (i : ℕ) (x : A) → i < length xs → x ≡ get_or xs i x → take (suc i) xs ≡ take i xs ++ x ∷ []
    go [] i x h e = absurd (omega (arith, h))
    go (y ∷ xs) zero x h e = ap (λ z. z ∷ []) (sym e)
    go (y ∷ xs) (suc i) x h e = ap (λ l. y ∷ l) (go xs i x (omega (arith, h)) e)

stand_stays : (links more : List Link) (ks : List ℕ) (way : List Link) → StandAt links ks way → StandAt (links ++ more) ks way
stand_stays links more [] [] e = refl
stand_stays links more [] (p ∷ ps) e = cc
stand_stays links more (k ∷ ks) [] e = cc
stand_stays links more (k ∷ ks) (p ∷ ps) e =
    let first : slice_get links k ≡ Some p = cc in let rest : StandAt links ks ps = cc in
    let here = stays links more k p first in let there = stand_stays links more ks ps rest in cc

all_stand : (links new : List Link) (ks : List ℕ) (way : List Link) → Extends links new → StandAt links ks way → StandAt new ks way
all_stand links new ks way g e = subst (λ l. StandAt l ks way) (sym g.1) (stand_stays links g.0 ks way e)

-- one link more of a way
pub way_next : (links new : List Link) (ks ks' : List ℕ) (way : List Link) (i k : ℕ) (d : Link) → i < length way → Extends links new → StandAt links ks (take i way) →
    slice_get new k ≡ Some (get_or way i d) → ks' ≡ ks ++ k ∷ [] → StandAt new ks' (take (i + 1) way)
way_next links new ks ks' way i k d h g old at push =
    let l = get_or way i d in
    ap (map (slice_get new)) push ∙ push_map (slice_get new) ks k
    ∙ (λ j. all_stand links new ks (take i way) g old j ++ at j ∷ [])
    ∙ sym (push_map Some (take i way) l) ∙ ap (map Some) (sym (take_push way i l h (any_default way i d l h)))

row_stays : (types : List FlowType) (links new : List Link) (row : List (List ℕ)) (all : List (List Link)) → Extends links new → IsLinkRow types links row all → IsLinkRow types new row all
row_stays types links new row all g r = (
  (λ ks c. let old = r.0 ks c in (old.0, old.1, all_stand links new ks old.0 g old.2)),
  λ way c. elim (r.1 way c) [
    | inl old ↦ inl (old.0, old.1, all_stand links new old.0 way g old.2)
    | inr off ↦ inr off
  ],
)

pub row_start : (types : List FlowType) (links : List Link) (all : List (List Link)) → IsLinkRow types links [] (take 0 all)
row_start types links all = ((λ ks c. nothing ks c), λ way c. nothing way c)

row_added : (types : List FlowType) (links : List Link) (row row' : List (List ℕ)) (all : List (List Link)) (way : List Link) → IsLinkRow types links row all → IsLinkAdded types links row row' way → IsLinkRow types links row' (all ++ way ∷ [])
row_added types links row row' all way r added = elim added [
  | inl off ↦ subst (λ l. IsLinkRow types links l (all ++ way ∷ [])) (sym off.0) (
    (λ ks c. let old = r.0 ks c in (old.0, Contains-append_left all (way ∷ []) old.0 old.1, old.2)),
    λ w c. elim (split all (way ∷ []) w c) [
      | inl d ↦ r.1 w d
      | inr d ↦ elim (first_or way [] w d) [
        | inl same ↦ inr (subst (HasLostLink types) same off.1)
        | inr none ↦ nothing w none
      ]
    ],
  )
  | inr on ↦ subst (λ l. IsLinkRow types links l (all ++ way ∷ [])) (sym on.1) (
    (λ ks c. elim (split row (on.0 ∷ []) ks c) [
      | inl d ↦ (let old = r.0 ks d in (old.0, Contains-append_left all (way ∷ []) old.0 old.1, old.2))
      | inr d ↦ elim (first_or on.0 [] ks d) [
        | inl same ↦ (way, Contains-append_right all (way ∷ []) way (here way []), subst (λ l. StandAt links l way) same on.2)
        | inr none ↦ nothing ks none
      ]
    ]),
    λ w c. elim (split all (way ∷ []) w c) [
      | inl d ↦ elim (r.1 w d) [
        | inl old ↦ inl (old.0, Contains-append_left row (on.0 ∷ []) old.0 old.1, old.2)
        | inr off ↦ inr off
      ]
      | inr d ↦ elim (first_or way [] w d) [
        | inl same ↦ inl (on.0, Contains-append_right row (on.0 ∷ []) on.0 (here on.0 []), subst (StandAt links on.0) same on.2)
        | inr none ↦ nothing w none
      ]
    ],
  )
]

pub row_next : (types : List FlowType) (links new : List Link) (row row' : List (List ℕ)) (all : List (List Link)) (i : ℕ) (way : List Link) → i < length all → way ≡ get_or all i way → Extends links new → IsLinkRow types links row (take i all) →
    IsLinkAdded types new row row' way → IsLinkRow types new row' (take (i + 1) all)
row_next types links new row row' all i way h e g old added =
    subst (IsLinkRow types new row') (sym (take_push all i way h e)) (row_added types new row row' (take i all) way (row_stays types links new row (take i all) g old) added)

pub row_end : (types : List FlowType) (links : List Link) (row : List (List ℕ)) (all : List (List Link)) (i : ℕ) → length all ≤ i → IsLinkRow types links row (take i all) → IsLinkRow types links row all
row_end types links row all i h r = subst (IsLinkRow types links row) (grind (arith, common_steps, h)) r

pub in_ways : (all : List (List Link)) (i : ℕ) (way : List Link) → i < length all → way ≡ get_or all i way → (l : Link) → Contains way l → InWays all l
in_ways all i way h e l c = (way, (i, h, sym e), c)

-- ---- rows of pairs

kept_all : (pairs more : List Pair) (ks : List ℕ) (ps : List Pair) → StandFor pairs ks ps → StandFor (pairs ++ more) ks ps
kept_all pairs more [] [] e = refl
kept_all pairs more [] (p ∷ ps) e = cc
kept_all pairs more (k ∷ ks) [] e = cc
kept_all pairs more (k ∷ ks) (p ∷ ps) e =
    let first : slice_get pairs k ≡ Some p = cc in let rest : StandFor pairs ks ps = cc in
    let here = stays pairs more k p first in let there = kept_all pairs more ks ps rest in cc

all_kept : (pairs new : List Pair) (ks : List ℕ) (ps : List Pair) → Grows pairs new → StandFor pairs ks ps → StandFor new ks ps
all_kept pairs new ks ps g e = subst (λ l. StandFor l ks ps) (sym g.1) (kept_all pairs g.0 ks ps e)

row_kept : (named : Key → FlowType) (pairs new : List Pair) (row : List (List ℕ)) (all : List (List Pair)) → Grows pairs new → IsRow named pairs row all → IsRow named new row all
row_kept named pairs new row all g r = (
  (λ ks c. let old = r.0 ks c in (old.0, old.1, all_kept pairs new ks old.0 g old.2)),
  λ way c. elim (r.1 way c) [
    | inl old ↦ inl (old.0, old.1, all_kept pairs new old.0 way g old.2)
    | inr off ↦ inr off
  ],
)

back_at : (pairs more : List Pair) (k : ℕ) (p : Pair) → k < length pairs → slice_get (pairs ++ more) k ≡ Some p → slice_get pairs k ≡ Some p
back_at [] more k p h e = absurd (omega (arith, h))
back_at (q ∷ pairs) more zero p h e = e
back_at (q ∷ pairs) more (suc k) p h e = back_at pairs more k p (omega (arith, h)) e

old_row : (rows : List (List (List ℕ))) (row : List (List ℕ)) (k : ℕ) → k < length rows → ways_of (rows ++ row ∷ []) k ≡ ways_of rows k
old_row [] row k h = absurd (omega (arith, h))
old_row (r ∷ rows) row zero h = refl
old_row (r ∷ rows) row (suc k) h = old_row rows row k (omega (arith, h))

new_row : (rows : List (List (List ℕ))) (row : List (List ℕ)) (k : ℕ) → k ≡ length rows → ways_of (rows ++ row ∷ []) k ≡ row
new_row [] row zero h = refl
new_row [] row (suc k) h = absurd (omega (arith, h))
new_row (r ∷ rows) row zero h = absurd (omega (arith, h))
new_row (r ∷ rows) row (suc k) h = new_row rows row k (omega (arith, h))

-- one row more
pub rows_next : (named : Key → FlowType) (pairs new : List Pair) (rows rows' : List (List (List ℕ))) (row : List (List ℕ)) → AreRows named pairs rows → length rows < length pairs → Grows pairs new →
    ((p : Pair) → slice_get pairs (length rows) ≡ Some p → IsRow named new row (ways named p)) → rows' ≡ rows ++ row ∷ [] → AreRows named new rows'
rows_next named pairs new rows rows' row table less g next push k p h e = go (nat_lt k (length rows)) refl
  where
    last : k < length rows + 1
    last = let f : length rows' ≡ length (rows ++ row ∷ []) = ap length push in let l = length-append rows (row ∷ []) in omega (arith, h, f, l)

    from : k < length pairs → slice_get pairs k ≡ Some p
    from inside = back_at pairs g.0 k p inside (sym (ap (λ l. slice_get l k) g.1) ∙ e)

    go : (b : Bool) → nat_lt k (length rows) ≡ b → IsRow named new (ways_of rows' k) (ways named p)
    go true is =
        let inside : k < length rows = grind (arith, is) in
        let old = from (omega (arith, inside, less)) in
        subst (λ r. IsRow named new r (ways named p)) (sym (ap (λ r. ways_of r k) push ∙ old_row rows row k inside)) (row_kept named pairs new (ways_of rows k) (ways named p) g (table k p inside old))
    go false is =
        let same : k ≡ length rows = grind (arith, is, last) in
        let old = from (omega (arith, same, less)) in
        subst (λ r. IsRow named new r (ways named p)) (sym (ap (λ r. ways_of r k) push ∙ new_row rows row k same)) (next p (sym (ap (slice_get pairs) same) ∙ old))
