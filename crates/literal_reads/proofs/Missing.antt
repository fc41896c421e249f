-- The properties that a literal lacks, one after another.
use Rattle.std.proofs.Common.{◌≡◌, ℕ, ◌+◌, ◌<◌, Bool, true, false, List, [], ◌∷◌, ◌++◌, map, filter, length, take, get_or, cond, sym, ap, ◌∙◌, append-nil}
use Rattle.std.proofs.lemmas.List.{map_push, take_more}
use Rattle.std.proofs.lemmas.List.Elements.{filter-append}
use Rattle.check_values.specs.declared.faults.Fault.{Fault}
use Rattle.type_values.specs.declared.types.FlowProp.{FlowProp, out-FlowProp}
use Rattle.typing.specs.States.{World, Notes, add_fault, add_faults}
use Rattle.typing.specs.Objects as typing
use Rattle.check_world.proofs.NoteSteps.{faults_more}

-- one property more that is asked for
pub asked_next : (w : World) (f t : ℕ) (entries : List typing.Entry) (props : List FlowProp) (i : ℕ) (p : FlowProp) (first before after : Notes) → i < length props → p ≡ get_or props i p →
    after ≡ cond (typing.lacks entries p) (add_fault (typing.missing_prop w f t (out-FlowProp p).key) before) before →
    before ≡ add_faults (typing.missing_props w f t entries (take i props)) first → after ≡ add_faults (typing.missing_props w f t entries (take (i + 1) props)) first
asked_next w f t entries props i p first before after within at made so_far =
    go (typing.lacks entries p) made
    ∙ ap (λ (l : List FlowProp). add_faults (map missing l) first)
    (sym (ap (filter (typing.lacks entries)) (take_more props i p within ∙ ap (λ (q : FlowProp). take i props ++ q ∷ []) (sym at)) ∙ filter-append (typing.lacks entries) (take i props) (p ∷ [])))
  where
    missing : FlowProp → Fault
    missing q = typing.missing_prop w f t (out-FlowProp q).key

    go : (b : Bool) → after ≡ cond b (add_fault (missing p) before) before → after ≡ add_faults (map missing (filter (typing.lacks entries) (take i props) ++ cond b (p ∷ []) [])) first
    go true is =
        faults_more (map missing (filter (typing.lacks entries) (take i props))) (missing p) first before after so_far is
        ∙ ap (λ (l : List Fault). add_faults l first) (sym (map_push missing (filter (typing.lacks entries) (take i props)) p))
    go false is = is ∙ so_far ∙ ap (λ (l : List FlowProp). add_faults (map missing l) first) (sym (append-nil (filter (typing.lacks entries) (take i props))))
