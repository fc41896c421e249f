-- One more piece in a sink.
use Rattle.std.proofs.Common.{◌≡◌, ℕ, ◌+◌, ◌-◌, ◌++◌, length, take, drop, length-drop, Option, Some, None, refl, sym, ap, ◌∙◌, append_assoc, arith}
use Rattle.std.proofs.lemmas.List.{take_all}
use Rattle.std.proofs.Math.Seq.{take-add}
use Rattle.flow_base.specs.Program.{Bytes}
use Rattle.flow_base.specs.Outside.{appended}

pub appended_twice : (before : Option Bytes) (xs ys : Bytes) → appended (appended before xs) ys ≡ appended before (xs ++ ys)
appended_twice None xs ys = refl
appended_twice (Some held) xs ys = ap Some (append_assoc held xs ys)

pub one_more : (before now next : Option Bytes) (bytes : Bytes) (at count : ℕ) → now ≡ appended before (take at bytes)
    → next ≡ appended now (take count (take (length bytes - at) (drop at bytes))) → next ≡ appended before (take (at + count) bytes)
one_more before now next bytes at count held written =
    written
    ∙ ap (λ held. appended held (take count (take (length bytes - at) (drop at bytes)))) held
    ∙ appended_twice before (take at bytes) (take count (take (length bytes - at) (drop at bytes)))
    ∙ ap (λ rest. appended before (take at bytes ++ take count rest)) (take_all (length bytes - at) (drop at bytes) (omega (arith, length-drop at bytes)))
    ∙ ap (appended before) (sym (take-add at count bytes))
