-- The arguments of a call, one after another.
use Rattle.std.proofs.Common.{◌≡◌, ℕ, ◌+◌, ◌<◌, true, false, List, [], ◌∷◌, ◌++◌, map, length, drop, take, get_or, None, refl, sym, ap, ◌∙◌, append_assoc, arith}
use Rattle.std.specs.Borrow.{Bor}
use Rattle.std.specs.List.{flat_map}
use Rattle.std.specs.Option.{is_some}
use Rattle.std.proofs.lemmas.List.{drop_more, flat_map_more}
use Rattle.check_values.specs.declared.faults.Fault.{Fault}
use Rattle.type_values.specs.declared.types.FlowType.{FlowType, out-FlowType}
use Rattle.type_values.specs.declared.types.FlowType.TheOpen.{Function}
use Rattle.type_values.specs.declared.types.Param.{Param}
use Rattle.alias_table.specs.Members.{seen}
use Rattle.flow_facts.specs.Cells.{Level}
use Rattle.typing.specs.States.{World}
use Rattle.typing.specs.Members.{Arg, param_at, one_function, misfit, misfits, member_misfits, args_faults}
use Rattle.check_world.proofs.Levels.{levels_more}
use Rattle.member_steps.specs.declared.call.Argument.{Argument}
use Rattle.member_steps.specs.View.{argument_view, arguments_view, levels_seen}

-- no member, and more than one
one_more : (x y : Level) (more : List Level) → one_function (x ∷ y ∷ more) ≡ None
one_more (Function params result) y more = refl
one_more level y more = refl

pub one_function_none : (members : List (Bor FlowType)) → members ≡ [] → None ≡ one_function (levels_seen members)
one_function_none members is = ap (λ (l : List (Bor FlowType)). one_function (levels_seen l)) (sym is)

pub one_function_more : (members : List (Bor FlowType)) → 1 < length members → None ≡ one_function (levels_seen members)
one_function_more [] h = absurd (omega arith)
one_function_more (x ∷ []) h = absurd (omega arith)
one_function_more (x ∷ y ∷ more) h = sym (one_more (out-FlowType x.now) (out-FlowType y.now) (map (λ m. out-FlowType m) (seen more)))

-- one argument more
args_at : (args : List Argument) (k : ℕ) (arg : Argument) → k < length args → arg ≡ get_or args k arg → arguments_view (drop k args) ≡ argument_view arg ∷ arguments_view (drop (k + 1) args)
args_at args k arg within at = ap (λ (l : List Argument). arguments_view l) (drop_more args k arg within ∙ ap (λ (a : Argument). a ∷ drop (k + 1) args) (sym at))

pub misfits_next : (w : World) (params : List Param) (args : List Argument) (k : ℕ) (arg : Argument) (before after all : List Fault) → k < length args → arg ≡ get_or args k arg →
    after ≡ before ++ misfit w (argument_view arg) (param_at params k) → before ++ misfits w params k (arguments_view (drop k args)) ≡ all →
    after ++ misfits w params (k + 1) (arguments_view (drop (k + 1) args)) ≡ all
misfits_next w params args k arg before after all within at made is =
    ap (λ (l : List Fault). l ++ misfits w params (k + 1) (arguments_view (drop (k + 1) args))) made
    ∙ append_assoc before (misfit w (argument_view arg) (param_at params k)) (misfits w params (k + 1) (arguments_view (drop (k + 1) args)))
    ∙ ap (λ (l : List Arg). before ++ misfits w params k l) (sym (args_at args k arg within at)) ∙ is

-- one member more
pub member_next : (w : World) (members : List (Bor FlowType)) (args : List Argument) (i : ℕ) (member : Bor FlowType) (before after : List Fault) → i < length members → member ≡ get_or members i member →
    before ≡ flat_map (member_misfits w (arguments_view args)) (levels_seen (take i members)) →
    after ≡ before ++ member_misfits w (arguments_view args) (out-FlowType member.now) →
    after ≡ flat_map (member_misfits w (arguments_view args)) (levels_seen (take (i + 1) members))
member_next w members args i member before after within at so_far made =
    made ∙ ap (λ (l : List Fault). l ++ member_misfits w (arguments_view args) (out-FlowType member.now)) so_far
    ∙ flat_map_more (member_misfits w (arguments_view args)) [] (levels_seen (take i members)) (out-FlowType member.now)
    ∙ ap (flat_map (member_misfits w (arguments_view args))) (sym (levels_more members i member within at))

-- Those of the one function were read against its parameters.
args_of_one : (w : World) (members : List Level) (args : List Arg) → is_some (one_function members) ≡ true → [] ≡ args_faults w members args
args_of_one w [] args e = absurd (cc)
args_of_one w (Function params result ∷ []) args e = refl
args_of_one w (Function params result ∷ y ∷ more) args e = absurd (cc)
args_of_one w (level ∷ []) args e = absurd (cc)
args_of_one w (level ∷ y ∷ more) args e = absurd (cc)

args_of_each : (w : World) (members : List Level) (args : List Arg) → is_some (one_function members) ≡ false → flat_map (member_misfits w args) members ≡ args_faults w members args
args_of_each w [] args e = refl
args_of_each w (Function params result ∷ []) args e = absurd (cc)
args_of_each w (Function params result ∷ y ∷ more) args e = refl
args_of_each w (level ∷ []) args e = refl
args_of_each w (level ∷ y ∷ more) args e = refl

pub args_one : (w : World) (members : List (Bor FlowType)) (args : List Argument) → is_some (one_function (levels_seen members)) ≡ true → [] ≡ args_faults w (levels_seen members) (arguments_view args)
args_one w members args e = args_of_one w (levels_seen members) (arguments_view args) e

pub args_each : (w : World) (members : List (Bor FlowType)) (args : List Argument) (faults : List Fault) → is_some (one_function (levels_seen members)) ≡ false →
    faults ≡ flat_map (member_misfits w (arguments_view args)) (levels_seen members) → faults ≡ args_faults w (levels_seen members) (arguments_view args)
args_each w members args faults e is = is ∙ args_of_each w (levels_seen members) (arguments_view args) e
