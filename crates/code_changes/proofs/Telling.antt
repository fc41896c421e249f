-- What a walk tells: one part behind another, and a scope that was entered and left.
use Rattle.std.proofs.Common.{Result, OnOk, ◌≡◌, Bool, true, false, not, ◌&&◌, ◌||◌, List, [], ◌∷◌, ◌++◌, map, cond, refl, sym, ap, ◌∙◌, subst, append_assoc, append-nil}
use Rattle.std.specs.List.{flat_map, filter_map, list_any}
use Rattle.std.specs.Ordering.{nat_cmp}
use Rattle.std.specs.Cmp.Lexicographic.{slice_cmp}
use Rattle.std.specs.BTreeMap.{is_at}
use Rattle.std.specs.BTreeSet.{contains}
use Rattle.std.proofs.lemmas.List.{map-append}
use Rattle.std.proofs.lemmas.Grind.{flat_map-append}
use Rattle.std.proofs.lemmas.Result.{on_ok_weaker}
use Rattle.check_values.specs.Rows.{Bytes, is_among}
use Rattle.typing.specs.Changes as typing
use Rattle.typing.specs.Changes.{outside, from_inside}
use Rattle.code_changes.specs.View.{change_view, changes_view}
use Rattle.code_changes.specs.Seen.{Scopes, seen_one, seen, with_scope, no_scope}
use Rattle.code_changes.specs.Walks.{scopes_of, Told, walk_view, walked, Tells, StartsBehind, Enters, Leaves}
use Rattle.code_changes.specs.declared.change.Change.{Change}
use Rattle.code_changes.specs.declared.change.Change.TheVariants as change
use Rattle.code_changes.specs.declared.walk.Walk.{Walk}
use Rattle.code_changes.specs.declared.walk.Outside.{Outside}

-- ---- what is seen

seen_both : (s : Scopes) (xs ys : List typing.Change) → seen s (xs ++ ys) ≡ seen s xs ++ seen s ys
unfolding seen
seen_both s xs ys = flat_map-append (seen_one s) xs ys

seen_none : (s : Scopes) → seen s [] ≡ []
unfolding seen
seen_none s = refl

seen_alone : (s : Scopes) (c : typing.Change) → seen s (c ∷ []) ≡ seen_one s c
unfolding seen
seen_alone s c = append-nil (seen_one s c)

seen_all : (cs : List typing.Change) → seen no_scope cs ≡ cs
unfolding seen
seen_all [] = refl
seen_all (typing.sets_variable true name ∷ cs) = ap (λ (l : List typing.Change). typing.sets_variable true name ∷ l) (seen_all cs)
seen_all (typing.sets_variable false name ∷ cs) = ap (λ (l : List typing.Change). typing.sets_variable false name ∷ l) (seen_all cs)
seen_all (typing.sets_property name ∷ cs) = ap (λ (l : List typing.Change). typing.sets_property name ∷ l) (seen_all cs)
seen_all (typing.may_set_all ∷ cs) = ap (λ (l : List typing.Change). typing.may_set_all ∷ l) (seen_all cs)

or_false : (b : Bool) → (b || false) ≡ b
or_false true = refl
or_false false = refl

or_true : (b : Bool) → (b || true) ≡ true
or_true true = refl
or_true false = refl

seen_block : (s : Scopes) (names : List Bytes) (cs : List typing.Change) → seen (with_scope false names s) cs ≡ seen s (outside names cs)
unfolding seen
seen_block s names [] = refl
seen_block s names (typing.sets_variable inner name ∷ cs) =
    ap (λ (b : Bool). cond (s.owns name || is_among names name) [] (typing.sets_variable (inner || b) name ∷ []) ++ flat_map (seen_one (with_scope false names s)) cs) (or_false s.is_inner)
    ∙ go (is_among names name) (seen_block s names cs)
  where
    go : (b : Bool) → flat_map (seen_one (with_scope false names s)) cs ≡ flat_map (seen_one s) (outside names cs) →
        cond (s.owns name || b) [] (typing.sets_variable (inner || s.is_inner) name ∷ []) ++ flat_map (seen_one (with_scope false names s)) cs ≡ flat_map (seen_one s) (cond (not b) (typing.sets_variable inner name ∷ outside names cs) (outside names cs))
    go true rest = ap (λ (c : Bool). cond c [] (typing.sets_variable (inner || s.is_inner) name ∷ []) ++ flat_map (seen_one (with_scope false names s)) cs) (or_true (s.owns name)) ∙ rest
    go false rest =
        ap (λ (c : Bool). cond c [] (typing.sets_variable (inner || s.is_inner) name ∷ []) ++ flat_map (seen_one (with_scope false names s)) cs) (or_false (s.owns name))
        ∙ ap (λ (l : List typing.Change). cond (s.owns name) [] (typing.sets_variable (inner || s.is_inner) name ∷ []) ++ l) rest
seen_block s names (typing.sets_property name ∷ cs) = ap (λ (l : List typing.Change). typing.sets_property name ∷ l) (seen_block s names cs)
seen_block s names (typing.may_set_all ∷ cs) =
    ap (λ (b : Bool). cond b [] (typing.may_set_all ∷ []) ++ flat_map (seen_one (with_scope false names s)) cs) (or_false s.is_inner)
    ∙ ap (λ (l : List typing.Change). cond s.is_inner [] (typing.may_set_all ∷ []) ++ l) (seen_block s names cs)

seen_function : (s : Scopes) (names : List Bytes) (cs : List typing.Change) → seen (with_scope true names s) cs ≡ seen s (outside names (filter_map from_inside cs))
unfolding seen
seen_function s names [] = refl
seen_function s names (typing.sets_variable inner name ∷ cs) =
    ap (λ (b : Bool). cond (s.owns name || is_among names name) [] (typing.sets_variable b name ∷ []) ++ flat_map (seen_one (with_scope true names s)) cs) (ap (λ (b : Bool). inner || b) (or_true s.is_inner) ∙ or_true inner)
    ∙ go (is_among names name) (seen_function s names cs)
  where
    go : (b : Bool) → flat_map (seen_one (with_scope true names s)) cs ≡ flat_map (seen_one s) (outside names (filter_map from_inside cs)) →
        cond (s.owns name || b) [] (typing.sets_variable true name ∷ []) ++ flat_map (seen_one (with_scope true names s)) cs
        ≡ flat_map (seen_one s) (cond (not b) (typing.sets_variable true name ∷ outside names (filter_map from_inside cs)) (outside names (filter_map from_inside cs)))
    go true rest = ap (λ (c : Bool). cond c [] (typing.sets_variable true name ∷ []) ++ flat_map (seen_one (with_scope true names s)) cs) (or_true (s.owns name)) ∙ rest
    go false rest =
        ap (λ (c : Bool). cond c [] (typing.sets_variable true name ∷ []) ++ flat_map (seen_one (with_scope true names s)) cs) (or_false (s.owns name))
        ∙ ap (λ (l : List typing.Change). cond (s.owns name) [] (typing.sets_variable true name ∷ []) ++ l) rest
seen_function s names (typing.sets_property name ∷ cs) = ap (λ (l : List typing.Change). typing.sets_property name ∷ l) (seen_function s names cs)
seen_function s names (typing.may_set_all ∷ cs) =
    ap (λ (b : Bool). cond b [] (typing.may_set_all ∷ []) ++ flat_map (seen_one (with_scope true names s)) cs) (or_true s.is_inner) ∙ seen_function s names cs

-- ---- changes of the code

none_viewed : changes_view [] ≡ []
unfolding changes_view
none_viewed = refl

pushed : (before after : List Change) (c : Change) → after ≡ before ++ c ∷ [] → changes_view after ≡ changes_view before ++ change_view c ∷ []
unfolding changes_view
pushed before after c is = ap (map change_view) is ∙ map-append change_view before (c ∷ [])

-- ---- one part behind another

pub walked_none : (t : Told) → walked [] t ≡ t
unfolding walked
walked_none t =
    let same : t.changes ++ seen t.scopes [] ≡ t.changes = ap (λ (l : List typing.Change). t.changes ++ l) (seen_none t.scopes) ∙ append-nil t.changes in
    λ i. record { changes = same i; scopes = t.scopes }

pub walked_both : (xs ys : List typing.Change) (t : Told) → walked (xs ++ ys) t ≡ walked ys (walked xs t)
unfolding walked
walked_both xs ys t =
    let same : t.changes ++ seen t.scopes (xs ++ ys) ≡ (t.changes ++ seen t.scopes xs) ++ seen t.scopes ys =
    ap (λ (l : List typing.Change). t.changes ++ l) (seen_both t.scopes xs ys) ∙ sym (append_assoc t.changes (seen t.scopes xs) (seen t.scopes ys)) in
    λ i. record { changes = same i; scopes = t.scopes }

pub tells_both : (a b c : Walk) (xs ys : List typing.Change) → Tells a b xs → Tells b c ys → Tells a c (xs ++ ys)
tells_both a b c xs ys first second = second ∙ ap (walked ys) first ∙ sym (walked_both xs ys (walk_view a))

-- the same for code that changes nothing, and for code of two or three parts
pub nothing_told : (w : Walk) (cs : List typing.Change) → [] ≡ cs → Tells w w cs
nothing_told w cs is = subst (Tells w w) is (sym (walked_none (walk_view w)))

pub pair_told : {T E : Type 0} (r : Result T E) (a b c : Walk) (xs ys cs : List typing.Change) → OnOk r (Tells b c ys) → Tells a b xs → cs ≡ xs ++ ys → OnOk r (Tells a c cs)
pair_told r a b c xs ys cs second first is = on_ok_weaker r (λ told. subst (Tells a c) (sym is) (tells_both a b c xs ys first told)) second

pub triple_told : {T E : Type 0} (r : Result T E) (a b c d : Walk) (xs ys zs cs : List typing.Change) → OnOk r (Tells c d zs) → Tells b c ys → Tells a b xs → cs ≡ xs ++ (ys ++ zs) → OnOk r (Tells a d cs)
triple_told r a b c d xs ys zs cs third second first is = pair_told r a b d xs (ys ++ zs) cs (pair_told r b c d ys zs (ys ++ zs) third second refl) first is

-- a walk that tells, by its parts
tells : (w v : Walk) (cs : List typing.Change) → changes_view v.changes ≡ changes_view w.changes ++ seen (scopes_of w) cs → scopes_of v ≡ scopes_of w → Tells w v cs
unfolding walk_view walked
tells w v cs is kept = λ i. record { changes = is i; scopes = kept i }

tells_changes : (w v : Walk) (cs : List typing.Change) → Tells w v cs → changes_view v.changes ≡ changes_view w.changes ++ seen (scopes_of w) cs
unfolding walk_view walked
tells_changes w v cs told = ap (λ (t : Told). t.changes) told

tells_scopes : (w v : Walk) (cs : List typing.Change) → Tells w v cs → scopes_of v ≡ scopes_of w
unfolding walk_view walked
tells_scopes w v cs told = ap (λ (t : Told). t.scopes) told

-- ---- one change

tells_one : (w v : Walk) (c : typing.Change) → changes_view v.changes ≡ changes_view w.changes ++ seen_one (scopes_of w) c → scopes_of v ≡ scopes_of w → Tells w v (c ∷ [])
tells_one w v c is kept = tells w v (c ∷ []) (is ∙ sym (ap (λ (l : List typing.Change). changes_view w.changes ++ l) (seen_alone (scopes_of w) c))) kept

same_scopes : (w v : Walk) → v.own ≡ w.own → v.is_inner ≡ w.is_inner → scopes_of v ≡ scopes_of w
same_scopes w v own inner = λ i. record { owns = contains (slice_cmp nat_cmp) (own i); is_inner = inner i }

hidden : (w : Walk) (c : typing.Change) → seen_one (scopes_of w) c ≡ [] → Tells w w (c ∷ [])
hidden w c none = tells_one w w c (sym (ap (λ (l : List typing.Change). changes_view w.changes ++ l) none ∙ append-nil (changes_view w.changes))) refl

pub own_set : (w : Walk) (name : Bytes) (b : Bool) → b ≡ contains (slice_cmp nat_cmp) w.own name → b ≡ true → Tells w w (typing.sets_variable false name ∷ [])
own_set w name b asked is = hidden w (typing.sets_variable false name) (ap (λ (c : Bool). cond c [] (typing.sets_variable w.is_inner name ∷ [])) (sym asked ∙ is))

pub variable_set : (w v : Walk) (name copy : Bytes) (b inner : Bool) → b ≡ contains (slice_cmp nat_cmp) w.own name → b ≡ false → copy ≡ name → inner ≡ w.is_inner → v.changes ≡ w.changes ++ change.SetsVariable inner copy ∷ [] → v.own ≡ w.own → v.is_inner ≡ w.is_inner →
    Tells w v (typing.sets_variable false name ∷ [])
variable_set w v name copy b inner asked is same as_outside adds own kept =
    tells_one w v (typing.sets_variable false name)
    (pushed w.changes v.changes (change.SetsVariable inner copy) adds
    ∙ ap (λ (c : Bool). changes_view w.changes ++ typing.sets_variable c copy ∷ []) as_outside
    ∙ ap (λ (n : Bytes). changes_view w.changes ++ typing.sets_variable w.is_inner n ∷ []) same
    ∙ sym (ap (λ (c : Bool). changes_view w.changes ++ cond c [] (typing.sets_variable w.is_inner name ∷ [])) (sym asked ∙ is)))
    (same_scopes w v own kept)

pub property_set : (w v : Walk) (name copy : Bytes) → copy ≡ name → v.changes ≡ w.changes ++ change.SetsProperty copy ∷ [] → v.own ≡ w.own → v.is_inner ≡ w.is_inner → Tells w v (typing.sets_property name ∷ [])
property_set w v name copy same adds own kept =
    tells_one w v (typing.sets_property name) (pushed w.changes v.changes (change.SetsProperty copy) adds ∙ ap (λ (n : Bytes). changes_view w.changes ++ typing.sets_property n ∷ []) same) (same_scopes w v own kept)

pub none_set : (w : Walk) → w.is_inner ≡ true → Tells w w (typing.may_set_all ∷ [])
none_set w is = hidden w typing.may_set_all (ap (λ (c : Bool). cond c [] (typing.may_set_all ∷ [])) is)

pub all_set : (w v : Walk) → w.is_inner ≡ false → v.changes ≡ w.changes ++ change.MaySetAll ∷ [] → v.own ≡ w.own → v.is_inner ≡ w.is_inner → Tells w v (typing.may_set_all ∷ [])
all_set w v is adds own kept =
    tells_one w v typing.may_set_all (pushed w.changes v.changes change.MaySetAll adds ∙ sym (ap (λ (c : Bool). changes_view w.changes ++ cond c [] (typing.may_set_all ∷ [])) is)) (same_scopes w v own kept)

-- ---- a scope that is entered and left

scope_walked : (is_function : Bool) (names : List Bytes) (outer : Outside) (w a b c : Walk) (cs told : List typing.Change) → Enters is_function names outer w a → Tells a b cs → Leaves outer b c →
    seen (with_scope is_function names (scopes_of w)) cs ≡ seen (scopes_of w) told → Tells w c told
scope_walked is_function names outer w a b c cs told (begun, (added, back), inner, noted) walks (ended, taken, restored) same =
    let inside : scopes_of a ≡ with_scope is_function names (scopes_of w) = λ i. record { owns = λ name. added name i; is_inner = inner i } in
    let again : (name : Bytes) → contains (slice_cmp nat_cmp) c.own name ≡ contains (slice_cmp nat_cmp) w.own name =
    λ name. taken name ∙ ap (λ (s : Scopes). s.owns name && not (is_among outer.added name)) (tells_scopes a b cs walks) ∙ sym (back name) in
    let outside_again : scopes_of c ≡ scopes_of w = λ i. record { owns = λ name. again name i; is_inner = (restored ∙ noted) i } in
    tells w c told
    (ap changes_view ended ∙ tells_changes a b cs walks ∙ ap (λ (l : List Change). changes_view l ++ seen (scopes_of a) cs) begun ∙ ap (λ (s : Scopes). changes_view w.changes ++ seen s cs) inside ∙ ap (λ (l : List typing.Change). changes_view w.changes ++ l) same)
    outside_again

pub tells_block : (names list : List Bytes) (outer : Outside) (w a b c : Walk) (cs told : List typing.Change) → Enters false names outer w a → names ≡ list → Tells a b cs → Leaves outer b c → told ≡ outside list cs → Tells w c told
tells_block names list outer w a b c cs told enters same walks leaves is =
    subst (Tells w c) (ap (λ (l : List Bytes). outside l cs) same ∙ sym is) (scope_walked false names outer w a b c cs (outside names cs) enters walks leaves (seen_block (scopes_of w) names cs))

pub tells_function : (names list : List Bytes) (outer : Outside) (w a b c : Walk) (cs told : List typing.Change) → Enters true names outer w a → names ≡ list → Tells a b cs → Leaves outer b c → told ≡ outside list (filter_map from_inside cs) → Tells w c told
tells_function names list outer w a b c cs told enters same walks leaves is =
    subst (Tells w c) (ap (λ (l : List Bytes). outside l (filter_map from_inside cs)) same ∙ sym is)
    (scope_walked true names outer w a b c cs (outside names (filter_map from_inside cs)) enters walks leaves (seen_function (scopes_of w) names cs))

-- ---- a whole walk

pub starts_behind : (changes : List Change) (w : Walk) → w.changes ≡ changes → w.own.keys ≡ [] → w.is_inner ≡ false → StartsBehind changes w
starts_behind changes w is none outer = (is, λ i. record { owns = λ name. list_any (is_at (slice_cmp nat_cmp name)) (none i); is_inner = outer i })

pub told_behind : (before after : List Change) (w v : Walk) (cs : List typing.Change) → StartsBehind before w → Tells w v cs → after ≡ v.changes → changes_view after ≡ changes_view before ++ cs
told_behind before after w v cs (starts, none) walks is =
    ap changes_view is ∙ tells_changes w v cs walks ∙ ap (λ (l : List Change). changes_view l ++ seen (scopes_of w) cs) starts ∙ ap (λ (l : List typing.Change). changes_view before ++ l) (ap (λ (s : Scopes). seen s cs) none ∙ seen_all cs)
