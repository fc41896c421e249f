-- One more element, property, argument or link was read.
use Rattle.std.proofs.Common.{◌≡◌, ℕ, ◌+◌, ◌<◌, ◌≤◌, arith, List, [], ◌∷◌, ◌++◌, map, length, take, get_or, Option, None, refl, sym, ap, ◌∙◌}
use Rattle.std.proofs.lemmas.List.{map-append, length-take-le, length-map, length-append}
use Rattle.js_grammar.specs.Code.{Ex, Exs, no_ex, more_ex, Link, link, LinkForm, Links, more_link}
use Rattle.code_tree.specs.Steps.{exs_from}
use Rattle.code_tree.specs.View.{expr_view, exprs_view, link_view, links_view, link_form_view}
use Rattle.code_tree.specs.declared.types.Expr.{Expr, out-Expr}
use Rattle.code_tree.specs.declared.types.Link.{Link as TreeLink, out-Link}
use Rattle.type_values.specs.declared.types.FlowType.{FlowType}
use Rattle.type_values.specs.declared.types.Param.{Param}
use Rattle.flow_facts.specs.declared.place.Place.{Place}
use Rattle.fact_ways.specs.declared.fork.Fork.{Fork}
use Rattle.fact_ways.specs.Ways.{Fits}
use Rattle.typing.specs.Names.{Scope}
use Rattle.typing.specs.States.{World, Want, Now, Out, after, noted_out}
use Rattle.typing.specs.Tests.{step_place}
use Rattle.typing.specs.Members.{Arg}
use Rattle.typing.specs.Objects.{Elements, element_want, count_of}
use Rattle.typing.specs.Forms.{Args}
use Rattle.typing.specs.Statements.{first_of, end_of}
use Rattle.typing.specs.Typing.{Items, read, read_elements, read_args, arg_of, arg_want, read_links, read_link}
use Rattle.member_steps.specs.View.{argument_view, arguments_view}
use Rattle.member_steps.specs.declared.call.Argument.{Argument}
use Rattle.check_moves.specs.declared.state.State.{State}
use Rattle.check_moves.specs.declared.state.Read.{Read}
use Rattle.check_moves.specs.View.{around, scope, now, told}
use Rattle.check_moves.specs.Follows.{Follows}
use Rattle.check_moves.proofs.Following.{follows_nothing, follows_notes, follows_through}
use Rattle.check_expr.proofs.Lists.{exs_more, exs_none, exs_all, links_more, links_none, links_all}
use Rattle.check_expr.proofs.Loops.{Goes, ElementsRead, ArgumentsRead, LinksRead}
use Rattle.check_expr.proofs.Views.{expr_is, link_is}

pub told_ty : (r : Read) (s : State) → (told r s).ty ≡ r.ty
unfolding told
told_ty r s = refl

pub goes_nothing : (a : State) → Goes None a None a
goes_nothing a = record { same = refl; follows = follows_nothing a a refl refl }

-- nothing happened behind ways
pub goes_still : (r : Option Fork) (a : State) → Fits r a.facts → Goes r a r a
goes_still r a fits = record { same = refl; follows = follows_notes r a a refl refl fits }

pub goes_on : (r s t : Option Fork) (a b c : State) → Goes r a s b → around c ≡ around b → Follows s b t c → Goes r a t c
goes_on r s t a b c before same next = record { same = same ∙ before.same; follows = follows_through r s t a b c before.follows next }

-- an expression was read, and what follows goes on where both ways go on
pub goes_after : (k : Option Fork) (a b c d : State) → Goes None a None b → around c ≡ around b → Follows None b k c → around d ≡ around c → Follows k c None d → Goes None a None d
goes_after k a b c d before same next met ends = goes_on None k None a c d (goes_on None None k a b c before same next) met ends

-- how many expressions there are
count_from : (so_far : Exs) (es : List Ex) → count_of (exs_from so_far es) ≡ count_of so_far + length es
count_from so_far [] = omega arith
count_from so_far (e ∷ es) = count_from (more_ex so_far e) es ∙ omega arith

count_up : (xs : List Expr) (i : ℕ) → i ≤ length xs → count_of (exprs_view (take i xs)) ≡ i
unfolding exprs_view
count_up xs i within = omega (arith, count_from no_ex (map expr_view (take i xs)), length-map (take i xs) expr_view, length-take-le i xs within)

pub count_all : (xs : List Expr) → count_of (exprs_view xs) ≡ length xs
unfolding exprs_view
count_all xs = omega (arith, count_from no_ex (map expr_view xs), length-map xs expr_view)

-- ---- elements

elements_step : (w : World) (es : Exs) (e : Ex) (s : Scope) (m : Option Elements) (start : Now) (items : Items) (o : Out) → items ≡ read_elements w es s m start →
    o ≡ read w e s (element_want m (count_of es)) items.now → record { types = items.types ++ o.ty ∷ []; now = after o } ≡ read_elements w (more_ex es e) s m start
elements_step w es e s m start items o is read_is =
    let out : o ≡ read w e s (element_want m (count_of es)) (read_elements w es s m start).now = read_is ∙ ap (λ (it : Items). read w e s (element_want m (count_of es)) it.now) is in
    λ i. record { types = (is i).types ++ (out i).ty ∷ []; now = after (out i) }

pub elements_none : (w : World) (xs : List Expr) (m : Option Elements) (a : State) (types : List FlowType) → types ≡ [] → ElementsRead w (exprs_view (take 0 xs)) m a types a
elements_none w xs m a types none = record {
  read = (λ i. record { types = none i; now = now a }) ∙ ap (λ (es : Exs). read_elements w es (scope a) m (now a)) (sym (exs_none xs));
  goes = goes_nothing a;
}

pub elements_next : (w : World) (xs : List Expr) (i : ℕ) (x : Expr) (m : Option Elements) (want : Want) (a b c d : State) (types more : List FlowType) (r : Read) (ty : FlowType) →
    i < length xs → x ≡ get_or xs i x → ElementsRead w (exprs_view (take i xs)) m a types b → want ≡ element_want m i →
    told r c ≡ read w (expr_view x) (scope b) want (now b) → around c ≡ around b → Follows None b r.fork c →
    now d ≡ after (told r c) → ty ≡ r.ty → around d ≡ around c → Follows r.fork c None d → more ≡ types ++ ty ∷ [] → ElementsRead w (exprs_view (take (i + 1) xs)) m a more d
elements_next w xs i x m want a b c d types more r ty within at before wanted is same follows met own kept ends adds =
    let counted : want ≡ element_want m (count_of (exprs_view (take i xs))) = wanted ∙ ap (element_want m) (sym (count_up xs i (omega (arith, within)))) in
    let out : told r c ≡ read w (expr_view x) (scope a) (element_want m (count_of (exprs_view (take i xs)))) (now b) =
    is ∙ (λ j. read w (expr_view x) (before.goes.same j).scope (counted j) (now b)) in
    let all : more ≡ types ++ (told r c).ty ∷ [] = adds ∙ ap (λ (t : FlowType). types ++ t ∷ []) (own ∙ sym (told_ty r c)) in
    let items : Items = record { types = types; now = now b } in
    record {
      read = (λ j. record { types = all j; now = met j })
          ∙ elements_step w (exprs_view (take i xs)) (expr_view x) (scope a) m (now a) items (told r c) before.read out
          ∙ ap (λ (es : Exs). read_elements w es (scope a) m (now a)) (sym (exs_more xs i x within at));
      goes = goes_after r.fork a b c d before.goes same follows kept ends;
    }

pub elements_all : (w : World) (xs : List Expr) (i : ℕ) (m : Option Elements) (a b : State) (types : List FlowType) → length xs ≤ i → ElementsRead w (exprs_view (take i xs)) m a types b →
    record { types = types; now = now b } ≡ read_elements w (exprs_view xs) (scope a) m (now a)
elements_all w xs i m a b types long read = read.read ∙ ap (λ (es : Exs). read_elements w es (scope a) m (now a)) (exs_all xs i long)

-- ---- arguments

args_step : (w : World) (es : Exs) (e : Ex) (s : Scope) (params : Option (List Param)) (start : Now) (given : Args) (o : Out) → given ≡ read_args w es s params start →
    o ≡ read w e s (arg_want params (length given.args)) given.now → record { args = given.args ++ arg_of (first_of e) (end_of e) o ∷ []; now = after o } ≡ read_args w (more_ex es e) s params start
args_step w es e s params start given o is read_is =
    let out : o ≡ read w e s (arg_want params (length (read_args w es s params start).args)) (read_args w es s params start).now =
    read_is ∙ ap (λ (g : Args). read w e s (arg_want params (length g.args)) g.now) is in
    λ i. record { args = (is i).args ++ arg_of (first_of e) (end_of e) (out i) ∷ []; now = after (out i) }

pub args_none : (w : World) (xs : List Expr) (params : Option (List Param)) (a : State) (given : List Arg) → given ≡ [] → ArgumentsRead w (exprs_view (take 0 xs)) params a given a
args_none w xs params a given none = record {
  read = (λ i. record { args = none i; now = now a }) ∙ ap (λ (es : Exs). read_args w es (scope a) params (now a)) (sym (exs_none xs));
  goes = goes_nothing a;
}

abbrev last_arg : (w : World) (s : Scope) (params : Option (List Param)) (start : Now) (so_far : Exs) (e : Ex) → Arg
last_arg w s params start so_far e =
    let given : Args = read_args w so_far s params start in
    arg_of (first_of e) (end_of e) (read w e s (arg_want params (length given.args)) given.now)

arg_is : (x : Expr) (r : Read) (s : State) → record { first = (out-Expr x).first; end = (out-Expr x).end; ty = r.ty } ≡ arg_of (first_of (expr_view x)) (end_of (expr_view x)) (told r s)
unfolding told
arg_is x r s = sym (ap (λ (e : Ex). arg_of (first_of e) (end_of e) (told r s)) (expr_is x))

args_length : (w : World) (s : Scope) (params : Option (List Param)) (start : Now) (so_far : Exs) (es : List Ex) →
    length (read_args w (exs_from so_far es) s params start).args ≡ length (read_args w so_far s params start).args + length es
args_length w s params start so_far [] = omega arith
args_length w s params start so_far (e ∷ es) =
    let one : length (read_args w (more_ex so_far e) s params start).args ≡ length (read_args w so_far s params start).args + 1 = length-append (read_args w so_far s params start).args (last_arg w s params start so_far e ∷ []) in
    omega (arith, one, args_length w s params start (more_ex so_far e) es)

args_up : (w : World) (s : Scope) (params : Option (List Param)) (start : Now) (xs : List Expr) (i : ℕ) → i ≤ length xs → length (read_args w (exprs_view (take i xs)) s params start).args ≡ i
unfolding exprs_view
args_up w s params start xs i within = omega (arith, args_length w s params start no_ex (map expr_view (take i xs)), length-map (take i xs) expr_view, length-take-le i xs within)

pub args_next : (w : World) (xs : List Expr) (i : ℕ) (x : Expr) (params : Option (List Param)) (want : Want) (a b c d : State) (given more : List Arg) (r : Read) (arg : Arg) →
    i < length xs → x ≡ get_or xs i x → ArgumentsRead w (exprs_view (take i xs)) params a given b → want ≡ arg_want params i →
    told r c ≡ read w (expr_view x) (scope b) want (now b) → around c ≡ around b → Follows None b r.fork c →
    now d ≡ after (told r c) → arg ≡ record { first = (out-Expr x).first; end = (out-Expr x).end; ty = r.ty } → around d ≡ around c → Follows r.fork c None d → more ≡ given ++ arg ∷ [] →
    ArgumentsRead w (exprs_view (take (i + 1) xs)) params a more d
args_next w xs i x params want a b c d given more r arg within at before wanted is same follows met own kept ends adds =
    let es : Exs = exprs_view (take i xs) in
    let count : i ≡ length given = sym (args_up w (scope a) params (now a) xs i (omega (arith, within))) ∙ ap (λ (g : Args). length g.args) (sym before.read) in
    let counted : want ≡ arg_want params (length given) = wanted ∙ ap (arg_want params) count in
    let out : told r c ≡ read w (expr_view x) (scope a) (arg_want params (length given)) (now b) =
    is ∙ (λ j. read w (expr_view x) (before.goes.same j).scope (counted j) (now b)) in
    let all : more ≡ given ++ arg_of (first_of (expr_view x)) (end_of (expr_view x)) (told r c) ∷ [] = adds ∙ ap (λ (y : Arg). given ++ y ∷ []) (own ∙ arg_is x r c) in
    let so_far : Args = record { args = given; now = now b } in
    record {
      read = (λ j. record { args = all j; now = met j })
          ∙ args_step w es (expr_view x) (scope a) params (now a) so_far (told r c) before.read out
          ∙ ap (λ (es : Exs). read_args w es (scope a) params (now a)) (sym (exs_more xs i x within at));
      goes = goes_after r.fork a b c d before.goes same follows kept ends;
    }

-- one more argument is told
pub arguments_push : (all more : List Argument) (x : Argument) → more ≡ all ++ x ∷ [] → arguments_view more ≡ arguments_view all ++ argument_view x ∷ []
arguments_push all more x adds = ap arguments_view adds ∙ map-append argument_view all (x ∷ [])

pub args_all : (w : World) (xs : List Expr) (i : ℕ) (params : Option (List Param)) (a b : State) (given : List Arg) → length xs ≤ i → ArgumentsRead w (exprs_view (take i xs)) params a given b →
    record { args = given; now = now b } ≡ read_args w (exprs_view xs) (scope a) params (now a)
args_all w xs i params a b given long read = read.read ∙ ap (λ (es : Exs). read_args w es (scope a) params (now a)) (exs_all xs i long)

-- ---- links

links_step : (w : World) (f : ℕ) (ls : Links) (l : Link) (from : Option ℕ) (s : Scope) (base : Out) (at t : ℕ) (form : LinkForm) → l ≡ link at t form →
    read_links w f (more_link ls l) from s base ≡ noted_out w f t (read_link w f at t form (step_place from (more_link ls l)) s (read_links w f ls from s base))
links_step w f ls l from s base at t form is =
    ap (λ (x : Link). read_links w f (more_link ls x) from s base) is
    ∙ ap (λ (x : Link). noted_out w f t (read_link w f at t form (step_place from (more_link ls x)) s (read_links w f ls from s base))) (sym is)

pub links_begin : (w : World) (f : ℕ) (xs : List TreeLink) (from : Option ℕ) (base : Read) (a : State) → Fits base.fork a.facts → LinksRead w f (links_view (take 0 xs)) from base a base a
links_begin w f xs from base a fits = record {
  read = ap (λ (ls : Links). read_links w f ls from (scope a) (told base a)) (sym (links_none xs));
  goes = goes_still base.fork a fits;
}

pub links_next : (w : World) (f : ℕ) (xs : List TreeLink) (i : ℕ) (x : TreeLink) (from : Option ℕ) (place : Option Place) (base chain r s : Read) (a b c d : State) →
    i < length xs → x ≡ get_or xs i x → LinksRead w f (links_view (take i xs)) from base a chain b → place ≡ step_place from (links_view (take (i + 1) xs)) →
    told r c ≡ read_link w f (out-Link x).first (out-Link x).end (link_form_view (out-Link x).form) place (scope b) (told chain b) → around c ≡ around b → Follows chain.fork b r.fork c →
    told s d ≡ noted_out w f (out-Link x).end (told r c) → around d ≡ around c → Follows r.fork c s.fork d → LinksRead w f (links_view (take (i + 1) xs)) from base a s d
links_next w f xs i x from place base chain r s a b c d within at before placed is same follows noted kept ends =
    let ls : Links = links_view (take i xs) in
    let more : links_view (take (i + 1) xs) ≡ more_link ls (link_view x) = links_more xs i x within at in
    let stands : place ≡ step_place from (more_link ls (link_view x)) = placed ∙ ap (step_place from) more in
    record {
      read = noted
          ∙ ap (noted_out w f (out-Link x).end) (is ∙ (λ j. read_link w f (out-Link x).first (out-Link x).end (link_form_view (out-Link x).form) (stands j) (before.goes.same j).scope (before.read j)))
          ∙ sym (links_step w f ls (link_view x) from (scope a) (told base a) (out-Link x).first (out-Link x).end (link_form_view (out-Link x).form) (link_is x))
          ∙ ap (λ (ls : Links). read_links w f ls from (scope a) (told base a)) (sym more);
      goes = goes_on base.fork r.fork s.fork a c d (goes_on base.fork chain.fork r.fork a b c before.goes same follows) kept ends;
    }

pub links_all_read : (w : World) (f : ℕ) (xs : List TreeLink) (i : ℕ) (from : Option ℕ) (base chain : Read) (a b : State) → length xs ≤ i → LinksRead w f (links_view (take i xs)) from base a chain b →
    told chain b ≡ read_links w f (links_view xs) from (scope a) (told base a)
links_all_read w f xs i from base chain a b long read = read.read ∙ ap (λ (ls : Links). read_links w f ls from (scope a) (told base a)) (links_all xs i long)
