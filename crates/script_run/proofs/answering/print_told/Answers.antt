use Rattle.std.proofs.Common.{[], refl, sym, arith}
use Rattle.std.proofs.lemmas.List.{append-nil}
use Rattle.script_run.specs.Session.{IsToldOfSome}
use Rattle.script_run.proofs.Asked.{told_long, told_at, prints_more, prints_all}
use Rattle.script_run.proofs.answering.print_told.Goals as goal

pub loop-i-init : goal.loop-i-init
loop-i-init c = record { printed = ([], refl, sym (append-nil c.args.printed.now.items)) }

pub bounds-told-i : goal.bounds-told-i
bounds-told-i c = omega (arith, told_long IsToldOfSome c.args.asks.now c.args.told.now c.requires)

pub told_text-requires : goal.told_text-requires
told_text-requires c = told_at IsToldOfSome c.args.asks.now c.args.told.now c.loop-i.i c.index-asks-i.result c.index-told-i.result c.requires (omega arith) c.index-asks-i.is c.index-told-i.is

pub loop-i-preserved : goal.loop-i-preserved
loop-i-preserved c = record {
  printed =
      prints_more c.args.asks.now c.args.told.now c.loop-i.i c.index-asks-i.result c.index-told-i.result c.args.printed.now.items c.loop-i.printed.items _ c.in_ok-text.text _ (omega arith)
      (omega (arith, told_long IsToldOfSome c.args.asks.now c.args.told.now c.requires)) c.index-asks-i.is c.index-told-i.is c.loop-i.invariant.printed c.in_ok-text.ensures c.as_bytes.ensures c.in_ok-extend_from_slice.ensures.items;
}

pub returns : goal.returns
returns c = prints_all c.args.asks.now c.args.told.now c.loop-i.i c.args.printed.now.items c.loop-i.printed.items c.requires c.loop-i-test.false c.loop-i.invariant.printed
