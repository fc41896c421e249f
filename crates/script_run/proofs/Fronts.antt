-- Fronts of what is printed.
use Rattle.std.proofs.Common.{◌≡◌, ◌+◌, [], ◌++◌, length, take, Option, Some, None, refl, sym, ap, ◌∙◌, arith, length-append}
use Rattle.std.proofs.lemmas.List.{append-nil}
use Rattle.std.proofs.Math.Seq.{take-append-add, take-length}
use Rattle.flow_base.specs.Program.{Bytes}
use Rattle.flow_base.specs.Outside.{appended, HoldsFront}
use Rattle.script_run.proofs.Writing.{appended_twice}

pub appended_none : (before : Option Bytes) → appended before [] ≡ before
appended_none None = refl
appended_none (Some held) = ap Some (append-nil held)

-- nothing was written
pub front_none : (before now : Option Bytes) (piece : Bytes) → now ≡ before → HoldsFront before now piece
front_none before now piece same = (0, omega arith, same ∙ sym (appended_none before))

-- all was written
pub front_all : (before now : Option Bytes) (piece : Bytes) → now ≡ appended before piece → HoldsFront before now piece
front_all before now piece written = (length piece, omega arith, written ∙ ap (appended before) (sym (take-length piece)))

-- a front of the next piece behind all of this one
pub front_behind : (before between now : Option Bytes) (piece more : Bytes) → between ≡ appended before piece → HoldsFront between now more → HoldsFront before now (piece ++ more)
front_behind before between now piece more written (n, within, front) = (
  length piece + n,
  omega (arith, length-append piece more),
  front ∙ ap (λ held. appended held (take n more)) written ∙ appended_twice before piece (take n more) ∙ ap (appended before) (sym (take-append-add piece more n)),
)
