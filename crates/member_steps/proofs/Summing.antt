-- What members give, one after another.
use Rattle.std.proofs.Common.{◌≡◌, List, [], ◌∷◌, ◌++◌, map, sym, ap, ◌∙◌}
use Rattle.std.proofs.lemmas.List.{flat_map_more, map_push}
use Rattle.check_values.specs.declared.faults.Fault.{Fault}
use Rattle.type_values.specs.declared.types.FlowType.{FlowType}
use Rattle.typing.specs.Members as typing
use Rattle.member_steps.specs.View.{summed}

pub summed_more : (types : List FlowType) (faults : List Fault) (steps : List typing.Step) (step : typing.Step) → (types, faults) ≡ summed steps → (types ++ step.0 ∷ [], faults ++ step.1) ≡ summed (steps ++ step ∷ [])
summed_more types faults steps step is =
    ap (λ (s : List FlowType × List Fault). (s.0 ++ step.0 ∷ [], s.1 ++ step.1)) is
    ∙ ap (λ (l : List FlowType). (l, typing.steps_faults steps ++ step.1)) (sym (map_push (λ (s : typing.Step). s.0) steps step))
    ∙ ap (λ (l : List Fault). (map (λ (s : typing.Step). s.0) (steps ++ step ∷ []), l)) (flat_map_more (λ (s : typing.Step). s.1) [] steps step)
