-- One more operand of a chain was read.
use Rattle.std.proofs.Common.{◌≡◌, ℕ, zero, suc, ◌+◌, ◌<◌, ◌≤◌, ◌-◌, ◌&&◌, arith, nat_lt, Bool, true, false, List, [], ◌∷◌, ◌++◌, map, reverse, length, take, drop, get_or, Option, Some, None, refl, sym, ap, ◌∙◌, subst}
use Rattle.std.specs.List.{slice_get}
use Rattle.std.proofs.Math.Seq.{take-add}
use Rattle.std.proofs.lemmas.Bool.{lt-ltb}
use Rattle.std.proofs.lemmas.Option.{slice_get-get_or}
use Rattle.std.proofs.lemmas.List.{reverse-append, length-reverse, map-append}
use Rattle.js_grammar.specs.Code as g
use Rattle.js_grammar.specs.Code.{nullish, or, and, strict_equal, strict_not_equal, loose_equal, loose_not_equal, less, greater, less_or_equal, greater_or_equal, add, subtract, multiply, divide, remainder, operand, right_side, as_type, Operands, no_operand, more_operand, has_operands}
use Rattle.code_tree.specs.Steps.{operands_from}
use Rattle.code_tree.specs.View.{operand_view, operands_view, operand_form_view}
use Rattle.code_tree.specs.declared.types.Operand.{Operand, out-Operand}
use Rattle.type_values.specs.declared.types.FlowType.{FlowType}
use Rattle.flow_facts.specs.declared.place.Place.{Place}
use Rattle.flow_facts.specs.Known.{Known}
use Rattle.typing.specs.Names.{Scope}
use Rattle.typing.specs.States.{World, Now, Out, noted_out}
use Rattle.typing.specs.Forms.{place_before, operator_out}
use Rattle.typing.specs.Typing.{read, read_operands, read_operand}
use Rattle.fact_ways.specs.declared.fork.Fork.{Fork}
use Rattle.fact_ways.specs.Ways.{Fits, AreNested, outermost, way_of, ways_of}
use Rattle.fact_ways.specs.Ways as facts
use Rattle.scopes.specs.View.{KeepsHeights}
use Rattle.fact_ways.proofs.Marks.{goes_through, goes_nowhere}
use Rattle.fact_ways.proofs.Nests.{nested_on, ways_on, outermost_on, fits_stands}
use Rattle.check_moves.specs.declared.state.State.{State}
use Rattle.check_moves.specs.declared.state.Read.{Read}
use Rattle.check_moves.specs.View.{around, scope, now, told}
use Rattle.check_moves.specs.Follows.{Follows}
use Rattle.expression_moves.specs.Moves.{goes_on, leaving, met}
use Rattle.check_moves.proofs.Following.{heights_twice, follows_through}
use Rattle.check_expr.specs.Runs.{run_of, is_run, are_run, side_out}
use Rattle.check_expr.proofs.Lists.{operands_more, operands_none, operands_all}
use Rattle.check_expr.proofs.Views.{operand_is}
use Rattle.check_expr.proofs.Loops.{Goes, OperandsRead, RunRead, met_any}
use Rattle.check_expr.proofs.Runs.{met_ways, goes_on_in_run, and_in_run, or_in_run, noted_in_run}
use Rattle.check_expr.proofs.Sequences.{told_ty, goes_still, goes_on as goes_along}

-- ---- one by one

operands_step : (w : World) (f : ℕ) (os : Operands) (x : Operand) (place : Option Place) (s : Scope) (left : Out) →
    read_operands w f (more_operand os (operand_view x)) place s left ≡
    noted_out w f (out-Operand x).end (read_operand w f (out-Operand x).first (out-Operand x).end (operand_form_view (out-Operand x).form) (has_operands os) place s (read_operands w f os place s left))
operands_step w f os x place s left = ap (λ (v : g.Operand). read_operands w f (more_operand os v) place s left) (operand_is x)

has_some : (os : Operands) (o : g.Operand) (vs : List g.Operand) → has_operands (operands_from (more_operand os o) vs) ≡ true
has_some os o [] = refl
has_some os o (v ∷ vs) = has_some (more_operand os o) v vs

has_up : (xs : List Operand) (i : ℕ) → i ≤ length xs → has_operands (operands_view (take i xs)) ≡ nat_lt 0 i
unfolding operands_view
has_up xs zero within = refl
has_up [] (suc i) within = absurd (omega (arith, within))
has_up (x ∷ xs) (suc i) within = has_some no_operand (operand_view x) (map operand_view (take i xs)) ∙ sym (lt-ltb 0 (suc i) (omega arith))

-- only the first part of a chain may be a place
pub place_gone : (at : ℕ) (place : Option Place) → 0 < at → None ≡ place_before (nat_lt 0 at) place
place_gone at place behind = sym (ap (λ (b : Bool). place_before b place) (lt-ltb 0 at behind))

pub operands_begin : (w : World) (f : ℕ) (xs : List Operand) (place : Option Place) (left : Read) (a : State) → Fits left.fork a.facts → OperandsRead w f (operands_view (take 0 xs)) place left a left a
operands_begin w f xs place left a fits = record {
  read = ap (λ (os : Operands). read_operands w f os place (scope a) (told left a)) (sym (operands_none xs));
  goes = goes_still left.fork a fits;
}

pub operands_next : (w : World) (f : ℕ) (xs : List Operand) (i : ℕ) (x : Operand) (place : Option Place) (left chain s : Read) (a b c : State) →
    i < length xs → x ≡ get_or xs i x → OperandsRead w f (operands_view (take i xs)) place left a chain b →
    told s c ≡ noted_out w f (out-Operand x).end (read_operand w f (out-Operand x).first (out-Operand x).end (operand_form_view (out-Operand x).form) (nat_lt 0 i) place (scope b) (told chain b)) → around c ≡ around b → Follows chain.fork b s.fork c →
    OperandsRead w f (operands_view (take (i + 1) xs)) place left a s c
operands_next w f xs i x place left chain s a b c within at before is same follows =
    let has : nat_lt 0 i ≡ has_operands (operands_view (take i xs)) = sym (has_up xs i (omega (arith, within))) in
    record {
      read = is
          ∙ ap (noted_out w f (out-Operand x).end)
          (λ j. read_operand w f (out-Operand x).first (out-Operand x).end (operand_form_view (out-Operand x).form) (has j) place (before.goes.same j).scope (before.read j))
          ∙ sym (operands_step w f (operands_view (take i xs)) x place (scope a) (told left a))
          ∙ ap (λ (os : Operands). read_operands w f os place (scope a) (told left a)) (sym (operands_more xs i x within at));
      goes = goes_along left.fork chain.fork s.fork a b c before.goes same follows;
    }

pub operands_all_read : (w : World) (f : ℕ) (xs : List Operand) (i : ℕ) (place : Option Place) (left chain : Read) (a b : State) → length xs ≤ i → OperandsRead w f (operands_view (take i xs)) place left a chain b →
    told chain b ≡ read_operands w f (operands_view xs) place (scope a) (told left a)
operands_all_read w f xs i place left chain a b long read = read.read ∙ ap (λ (os : Operands). read_operands w f os place (scope a) (told left a)) (operands_all xs i long)

-- ---- chains of `&&` or of `||`

is_run_some : (is_and : Bool) (kind : Option Bool) → is_run is_and kind ≡ true → kind ≡ Some is_and
is_run_some true (Some true) is = refl
is_run_some true (Some false) is = absurd (cc)
is_run_some true None is = absurd (cc)
is_run_some false (Some true) is = absurd (cc)
is_run_some false (Some false) is = refl
is_run_some false None is = absurd (cc)

-- an operand of such a chain, which asks for no place
abbrev one_out : World → ℕ → Scope → g.Operand → Out → Out
one_out w f s (operand at t form) o = noted_out w f t (read_operand w f at t form false None s o)

abbrev run_out : World → ℕ → Scope → List g.Operand → Out → Out
run_out w f s [] o = o
run_out w f s (v ∷ vs) o = run_out w f s vs (one_out w f s v o)

one_in_run : (w : World) (f : ℕ) (is_and : Bool) (os : Operands) (v : g.Operand) (place : Option Place) (s : Scope) (left : Out) → run_of v ≡ Some is_and →
    read_operands w f (more_operand os v) place s left ≡ one_out w f s v (read_operands w f os place s left)
one_in_run w f is_and os (operand at t (right_side and e)) place s left is = refl
one_in_run w f is_and os (operand at t (right_side or e)) place s left is = refl
one_in_run w f is_and os (operand at t (right_side nullish e)) place s left is = absurd (cc)
one_in_run w f is_and os (operand at t (right_side strict_equal e)) place s left is = absurd (cc)
one_in_run w f is_and os (operand at t (right_side strict_not_equal e)) place s left is = absurd (cc)
one_in_run w f is_and os (operand at t (right_side loose_equal e)) place s left is = absurd (cc)
one_in_run w f is_and os (operand at t (right_side loose_not_equal e)) place s left is = absurd (cc)
one_in_run w f is_and os (operand at t (right_side less e)) place s left is = absurd (cc)
one_in_run w f is_and os (operand at t (right_side greater e)) place s left is = absurd (cc)
one_in_run w f is_and os (operand at t (right_side less_or_equal e)) place s left is = absurd (cc)
one_in_run w f is_and os (operand at t (right_side greater_or_equal e)) place s left is = absurd (cc)
one_in_run w f is_and os (operand at t (right_side add e)) place s left is = absurd (cc)
one_in_run w f is_and os (operand at t (right_side subtract e)) place s left is = absurd (cc)
one_in_run w f is_and os (operand at t (right_side multiply e)) place s left is = absurd (cc)
one_in_run w f is_and os (operand at t (right_side divide e)) place s left is = absurd (cc)
one_in_run w f is_and os (operand at t (right_side remainder e)) place s left is = absurd (cc)
one_in_run w f is_and os (operand at t (as_type v)) place s left is = absurd (cc)

both_run : (a b : Bool) → (a && b) ≡ true → (a ≡ true) × (b ≡ true)
both_run true true is = (refl, refl)
both_run true false is = absurd (cc)
both_run false b is = absurd (cc)

run_onto : (w : World) (f : ℕ) (is_and : Bool) (os : Operands) (vs : List g.Operand) (place : Option Place) (s : Scope) (left : Out) → are_run is_and vs ≡ true →
    read_operands w f (operands_from os vs) place s left ≡ run_out w f s vs (read_operands w f os place s left)
run_onto w f is_and os [] place s left run = refl
run_onto w f is_and os (v ∷ vs) place s left run =
    let each = both_run (is_run is_and (run_of v)) (are_run is_and vs) run in
    run_onto w f is_and (more_operand os v) vs place s left each.1 ∙ ap (run_out w f s vs) (one_in_run w f is_and os v place s left (is_run_some is_and (run_of v) each.0))

from_append : (os : Operands) (vs us : List g.Operand) → operands_from os (vs ++ us) ≡ operands_from (operands_from os vs) us
from_append os [] us = refl
from_append os (v ∷ vs) us = from_append (more_operand os v) vs us

-- operands that go on a chain, behind others
pub run_behind : (w : World) (f : ℕ) (is_and : Bool) (xs ys : List Operand) (place other : Option Place) (s : Scope) (left : Out) → are_run is_and (map operand_view ys) ≡ true →
    read_operands w f (operands_view ys) other s (read_operands w f (operands_view xs) place s left) ≡ read_operands w f (operands_view (xs ++ ys)) place s left
unfolding operands_view
run_behind w f is_and xs ys place other s left run =
    run_onto w f is_and no_operand (map operand_view ys) other s (read_operands w f (operands_view xs) place s left) run
    ∙ sym (run_onto w f is_and (operands_from no_operand (map operand_view xs)) (map operand_view ys) place s left run)
    ∙ ap (λ (os : Operands). read_operands w f os place s left) (sym (from_append no_operand (map operand_view xs) (map operand_view ys)))
    ∙ ap (λ (vs : List g.Operand). read_operands w f (operands_from no_operand vs) place s left) (sym (map-append operand_view xs ys))

pub operands_run : (w : World) (f : ℕ) (is_and : Bool) (xs : List Operand) (i j : ℕ) (ys : List Operand) (place : Option Place) (left chain r : Read) (a b c : State) →
    take j xs ≡ take i xs ++ ys → are_run is_and (map operand_view ys) ≡ true → OperandsRead w f (operands_view (take i xs)) place left a chain b →
    ((place : Option Place) → told r c ≡ read_operands w f (operands_view ys) place (scope b) (told chain b)) → around c ≡ around b → Follows chain.fork b r.fork c →
    OperandsRead w f (operands_view (take j xs)) place left a r c
operands_run w f is_and xs i j ys place left chain r a b c parts run before is same follows = record {
  read = is place
      ∙ (λ n. read_operands w f (operands_view ys) place (before.goes.same n).scope (before.read n))
      ∙ run_behind w f is_and (take i xs) ys place place (scope a) (told left a) run
      ∙ ap (λ (l : List Operand). read_operands w f (operands_view l) place (scope a) (told left a)) (sym parts);
  goes = goes_along left.fork chain.fork r.fork a b c before.goes same follows;
}

-- the operands up to a place are those up to one before it and those between
pub run_cut : (xs : List Operand) (at end : ℕ) → at ≤ end → take end xs ≡ take at xs ++ take (end - at) (drop at xs)
run_cut xs at end behind =
    let whole : end ≡ at + (end - at) = omega (arith, behind) in
    ap (λ (n : ℕ). take n xs) whole ∙ take-add at (end - at) xs

-- the operand at a place, by another word for it
pub run_here : (xs : List Operand) (at : ℕ) (x : Operand) (is_and : Bool) → at < length xs → x ≡ get_or xs at x → run_of (operand_view x) ≡ Some is_and →
    (o : Operand) → slice_get xs at ≡ Some o → run_of (operand_view o) ≡ Some is_and
run_here xs at x is_and within here run o found =
    let same : Some o ≡ Some x = sym found ∙ slice_get-get_or xs at x within ∙ ap Some (sym here) in
    ap (λ (y : Operand). run_of (operand_view y)) (some_same o x same) ∙ run
  where
    some_same : (a b : Operand) → Some a ≡ Some b → a ≡ b
    some_same a b is = cc

-- ---- inside such a chain

-- the last token of an operand is noted
abbrev end_noted : World → ℕ → g.Operand → Out → Out
end_noted w f (operand at t form) o = noted_out w f t o

-- another operand, where some ways left the chain
and_side : (w : World) (f at t : ℕ) (e : g.Ex) (ways : List Known) (s : Scope) (o : Out) →
    one_out w f s (operand at t (right_side and e)) (met_ways true ways o) ≡ met true (leaving true o ∷ ways) (noted_out w f t (side_out w true (operand at t (right_side and e)) o.ty s (goes_on true o)))
and_side w f at t e ways s o =
    ap (λ (n : Now). noted_out w f t (operator_out w f at t and (met_ways true ways o) (read w e s None n))) (goes_on_in_run w true None ways o)
    ∙ ap (noted_out w f t) (and_in_run w ways o (read w e s None (goes_on true o)))
    ∙ noted_in_run w f t true (leaving true o ∷ ways) (side_out w true (operand at t (right_side and e)) o.ty s (goes_on true o))

or_side : (w : World) (f at t : ℕ) (e : g.Ex) (ways : List Known) (s : Scope) (o : Out) →
    one_out w f s (operand at t (right_side or e)) (met_ways false ways o) ≡ met false (leaving false o ∷ ways) (noted_out w f t (side_out w false (operand at t (right_side or e)) o.ty s (goes_on false o)))
or_side w f at t e ways s o =
    ap (λ (n : Now). noted_out w f t (operator_out w f at t or (met_ways false ways o) (read w e s None n))) (goes_on_in_run w false None ways o)
    ∙ ap (noted_out w f t) (or_in_run w ways o (read w e s None (goes_on false o)))
    ∙ noted_in_run w f t false (leaving false o ∷ ways) (side_out w false (operand at t (right_side or e)) o.ty s (goes_on false o))

side_in_run : (w : World) (f : ℕ) (is_and : Bool) (v : g.Operand) (ways : List Known) (s : Scope) (o : Out) → run_of v ≡ Some is_and →
    one_out w f s v (met_ways is_and ways o) ≡ met is_and (leaving is_and o ∷ ways) (end_noted w f v (side_out w is_and v o.ty s (goes_on is_and o)))
side_in_run w f true (operand at t (right_side and e)) ways s o is = and_side w f at t e ways s o
side_in_run w f false (operand at t (right_side and e)) ways s o is = absurd (cc)
side_in_run w f true (operand at t (right_side or e)) ways s o is = absurd (cc)
side_in_run w f false (operand at t (right_side or e)) ways s o is = or_side w f at t e ways s o
side_in_run w f is_and (operand at t (right_side nullish e)) ways s o is = absurd (cc)
side_in_run w f is_and (operand at t (right_side strict_equal e)) ways s o is = absurd (cc)
side_in_run w f is_and (operand at t (right_side strict_not_equal e)) ways s o is = absurd (cc)
side_in_run w f is_and (operand at t (right_side loose_equal e)) ways s o is = absurd (cc)
side_in_run w f is_and (operand at t (right_side loose_not_equal e)) ways s o is = absurd (cc)
side_in_run w f is_and (operand at t (right_side less e)) ways s o is = absurd (cc)
side_in_run w f is_and (operand at t (right_side greater e)) ways s o is = absurd (cc)
side_in_run w f is_and (operand at t (right_side less_or_equal e)) ways s o is = absurd (cc)
side_in_run w f is_and (operand at t (right_side greater_or_equal e)) ways s o is = absurd (cc)
side_in_run w f is_and (operand at t (right_side add e)) ways s o is = absurd (cc)
side_in_run w f is_and (operand at t (right_side subtract e)) ways s o is = absurd (cc)
side_in_run w f is_and (operand at t (right_side multiply e)) ways s o is = absurd (cc)
side_in_run w f is_and (operand at t (right_side divide e)) ways s o is = absurd (cc)
side_in_run w f is_and (operand at t (right_side remainder e)) ways s o is = absurd (cc)
side_in_run w f is_and (operand at t (as_type v)) ways s o is = absurd (cc)

end_is : (w : World) (f : ℕ) (x : Operand) (o : Out) → noted_out w f (out-Operand x).end o ≡ end_noted w f (operand_view x) o
end_is w f x o = sym (ap (λ (v : g.Operand). end_noted w f v o) (operand_is x))

-- the ways that left a chain so far, as its definition joins them
met_any_is : (is_and : Bool) (ks : List Fork) (b : State) (o : Out) → met_any is_and ks b o ≡ met_ways is_and (ways_of b.facts ks) o
met_any_is is_and [] b o = refl
met_any_is is_and (k ∷ ks) b o = refl

reverse_one : {A : Type 0} (xs : List A) (x : A) → reverse (xs ++ x ∷ []) ≡ x ∷ reverse xs
reverse_one xs x = reverse-append xs (x ∷ [])

pub run_begin : (w : World) (f : ℕ) (xs : List Operand) (is_and : Bool) (left : Read) (a : State) (ways : List Fork) (ty : FlowType) (fork : Option Fork) →
    ways ≡ [] → left ≡ record { ty = ty; fork = fork } → Fits left.fork a.facts → RunRead w f (operands_view (take 0 xs)) is_and left a ways ty fork a
run_begin w f xs is_and left a ways ty fork none is fits = record {
  read = λ place. ap (λ (ks : List Fork). met_any is_and (reverse ks) a (told (record { ty = ty; fork = fork }) a)) none ∙ ap (λ (r : Read). told r a) (sym is)
      ∙ ap (λ (os : Operands). read_operands w f os place (scope a) (told left a)) (sym (operands_none xs));
  same = refl;
  nested = subst (λ (ks : List Fork). AreNested (reverse ks) fork a.facts) (sym none) tt;
  fits = subst (λ (r : Read). Fits r.fork a.facts) is fits;
  goes = subst (λ (ks : List Fork). facts.Goes left.fork a.facts (outermost (reverse ks) fork) a.facts) (sym none) (subst (λ (r : Read). facts.Goes left.fork a.facts r.fork a.facts) is (goes_nowhere left.fork a.facts));
  heights = λ height is. (is, refl);
}

-- Another operand: the ways part, it is read where the chain goes on, and noted.
pub run_next : (w : World) (f : ℕ) (xs : List Operand) (i : ℕ) (x : Operand) (is_and : Bool) (left : Read) (ways more : List Fork) (ty : FlowType) (fork : Option Fork) (k : Fork) (r s : Read) (a b c d e : State) →
    i < length xs → x ≡ get_or xs i x → run_of (operand_view x) ≡ Some is_and → RunRead w f (operands_view (take i xs)) is_and left a ways ty fork b →
    now c ≡ goes_on is_and (told (record { ty = ty; fork = fork }) b) → way_of c.facts k ≡ leaving is_and (told (record { ty = ty; fork = fork }) b) → around c ≡ around b → Follows fork b (Some k) c →
    told r d ≡ side_out w is_and (operand_view x) ty (scope c) (now c) → around d ≡ around c → Follows None c r.fork d →
    told s e ≡ noted_out w f (out-Operand x).end (told r d) → around e ≡ around d → Follows r.fork d s.fork e → more ≡ ways ++ k ∷ [] →
    RunRead w f (operands_view (take (i + 1) xs)) is_and left a more s.ty s.fork e
run_next w f xs i x is_and left ways more ty fork k r s a b c d e within at run before on way parted parts is same follows noted kept ends adds =
    let o : Out = told (record { ty = ty; fork = fork }) b in
    let rest : List Fork = reverse ways in
    let turned : reverse more ≡ k ∷ rest = ap reverse adds ∙ reverse_one ways k in
    let parted_nest : AreNested rest (Some k) c.facts = nested_on rest fork (Some k) b.facts c.facts parts.leads.goes before.nested in
    let stood : AreNested (k ∷ rest) None c.facts = (fits_stands k c.facts parts.leads.fits, parted_nest) in
    let inner : Follows None c s.fork e = follows_through None r.fork s.fork c d e follows ends in
    let left_ways : ways_of e.facts (k ∷ rest) ≡ leaving is_and o ∷ ways_of b.facts rest =
    ways_on (k ∷ rest) None s.fork c.facts e.facts inner.leads.goes stood
    ∙ (λ j. way j ∷ ways_on rest fork (Some k) b.facts c.facts parts.leads.goes before.nested j) in
    let out : told s e ≡ end_noted w f (operand_view x) (side_out w is_and (operand_view x) o.ty (scope a) (goes_on is_and o)) =
    noted ∙ ap (noted_out w f (out-Operand x).end) (is ∙ (λ j. side_out w is_and (operand_view x) ty ((parted ∙ before.same) j).scope (on j))
    ∙ ap (λ (t : FlowType). side_out w is_and (operand_view x) t (scope a) (goes_on is_and o)) (sym (told_ty (record { ty = ty; fork = fork }) b)))
    ∙ end_is w f x (side_out w is_and (operand_view x) o.ty (scope a) (goes_on is_and o)) in
    record {
      read = λ place.
          ap (λ (ks : List Fork). met_any is_and ks e (told s e)) turned
          ∙ (λ j. met is_and (left_ways j) (out j))
          ∙ sym (side_in_run w f is_and (operand_view x) (ways_of b.facts rest) (scope a) o run)
          ∙ ap (one_out w f (scope a) (operand_view x)) (sym (met_any_is is_and rest b o) ∙ before.read place)
          ∙ sym (one_in_run w f is_and (operands_view (take i xs)) (operand_view x) place (scope a) (told left a) run)
          ∙ ap (λ (os : Operands). read_operands w f os place (scope a) (told left a)) (sym (operands_more xs i x within at));
      same = kept ∙ same ∙ parted ∙ before.same;
      nested = subst (λ (ks : List Fork). AreNested ks s.fork e.facts) (sym turned) (nested_on (k ∷ rest) None s.fork c.facts e.facts inner.leads.goes stood);
      fits = ends.leads.fits;
      goes = subst (λ (ks : List Fork). facts.Goes left.fork a.facts (outermost ks s.fork) e.facts) (sym turned)
          (goes_through left.fork (outermost rest (Some k)) (outermost (k ∷ rest) s.fork) a.facts c.facts e.facts
          (goes_through left.fork (outermost rest fork) (outermost rest (Some k)) a.facts b.facts c.facts before.goes (outermost_on rest fork (Some k) b.facts c.facts parts.leads.goes before.nested))
          (outermost_on (k ∷ rest) None s.fork c.facts e.facts inner.leads.goes stood));
      heights = heights_twice a.scope c.scope e.scope (heights_twice a.scope b.scope c.scope before.heights parts.heights) inner.heights;
    }

-- and the ways of all meet
pub run_met : (w : World) (f : ℕ) (xs : List Operand) (i : ℕ) (is_and : Bool) (left : Read) (ways : List Fork) (ty : FlowType) (fork met_fork : Option Fork) (a b c : State) (place : Option Place) →
    length xs ≤ i → 0 < length xs → RunRead w f (operands_view (take i xs)) is_and left a ways ty fork b → 0 < length ways →
    told (record { ty = ty; fork = met_fork }) c ≡ met is_and (ways_of b.facts (reverse ways)) (told (record { ty = ty; fork = fork }) b) →
    told (record { ty = ty; fork = met_fork }) c ≡ read_operands w f (operands_view xs) place (scope a) (told left a)
run_met w f xs i is_and left ways ty fork met_fork a b c place long some read left_some is =
    is ∙ any_is (reverse ways) (omega (arith, left_some, length-reverse ways)) ∙ read.read place ∙ ap (λ (os : Operands). read_operands w f os place (scope a) (told left a)) (operands_all xs i long)
  where
    any_is : (ks : List Fork) → 0 < length ks → met is_and (ways_of b.facts ks) (told (record { ty = ty; fork = fork }) b) ≡ met_any is_and ks b (told (record { ty = ty; fork = fork }) b)
    any_is [] none = absurd (omega (arith, none))
    any_is (k ∷ ks) are = refl

-- an operand of a chain goes on it
pub run_at : (xs : List Operand) (i : ℕ) (x : Operand) (is_and : Bool) → are_run is_and (map operand_view xs) ≡ true → i < length xs → x ≡ get_or xs i x → run_of (operand_view x) ≡ Some is_and
run_at [] i x is_and run within at = absurd (omega (arith, within))
run_at (y ∷ ys) zero x is_and run within at = ap (λ (z : Operand). run_of (operand_view z)) at ∙ is_run_some is_and (run_of (operand_view y)) (both_run (is_run is_and (run_of (operand_view y))) (are_run is_and (map operand_view ys)) run).0
run_at (y ∷ ys) (suc i) x is_and run within at = run_at ys i x is_and (both_run (is_run is_and (run_of (operand_view y))) (are_run is_and (map operand_view ys)) run).1 (omega (arith, within)) at

pub run_follows : (from fork met_fork : Option Fork) (ways : List Fork) (a b c : State) → facts.Goes from a.facts (outermost (reverse ways) fork) b.facts → KeepsHeights a.scope b.scope → Follows (outermost (reverse ways) fork) b met_fork c → Follows from a met_fork c
run_follows from fork met_fork ways a b c goes heights ends = record {
  leads = record { fits = ends.leads.fits; goes = goes_through from (outermost (reverse ways) fork) met_fork a.facts b.facts c.facts goes ends.leads.goes };
  heights = heights_twice a.scope b.scope c.scope heights ends.heights;
}
