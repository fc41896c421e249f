-- What the heap of modules holds, what is asked and what is answered may cross threads.
use denote.Param.Send.{IsSend, IsSync}
use Rattle.asks.specs.contracts.answer.Answer as Answer
use Rattle.asks.specs.contracts.answer.AskFault as AskFault
use Rattle.asks.specs.contracts.answer.Located as Located
use Rattle.asks.specs.contracts.ask.Ask as Ask
use Rattle.check_values.specs.contracts.faults.Errs as Errs
use Rattle.check_values.specs.contracts.root.Root as Root
use Rattle.check_values.specs.contracts.root.RootRow as RootRow
use Rattle.request_core.specs.payloads.specs.contracts.payload.Payload as Payload
use Rattle.recheck_run.specs.tree_crossing.proofs.Formers.{formers}
use Rattle.recheck_run.specs.tree_crossing.proofs.Jobs.{path_send, path_sync, flow_type_send, code_send, shared_parse_send, shared_parse_sync, shared_deps_send, shared_deps_sync, shared_sig_send, shared_sig_sync, fault_send, fault_sync}

root_row_send : IsSend (RootRow.the_field).row
root_row_send = search (formers, path_send) depth 20

root_row_sync : IsSync (RootRow.the_field).row
root_row_sync = search (formers, path_sync) depth 20

root_send : IsSend (Root.the_field).row
root_send = search (formers, root_row_send) depth 20

root_sync : IsSync (Root.the_field).row
root_sync = search (formers, root_row_sync) depth 20

errs_send : IsSend (Errs.the_field).row
errs_send = search (formers, fault_send) depth 20

errs_sync : IsSync (Errs.the_field).row
errs_sync = search (formers, fault_sync) depth 20

pub payload_send : IsSend (Payload.the_field).row
payload_send = search (formers, root_send, root_sync, errs_send, errs_sync, shared_parse_send, shared_deps_send, shared_sig_send) depth 20

pub payload_sync : IsSync (Payload.the_field).row
payload_sync = search (formers, root_send, root_sync, errs_send, errs_sync, shared_parse_sync, shared_deps_sync, shared_sig_sync) depth 20

pub ask_sync : IsSync (Ask.the_field).row
ask_sync = search (formers, path_sync) depth 20

located_send : IsSend (Located.the_field).row
located_send = search (formers, path_send, code_send) depth 20

pub answer_send : IsSend (Answer.the_field).row
answer_send = search (formers, located_send, flow_type_send, path_send, shared_sig_send) depth 20

pub ask_fault_send : IsSend (AskFault.the_field).row
ask_fault_send = search formers depth 20

pub ruleset crossing = (formers, payload_send, payload_sync, ask_sync, answer_send, ask_fault_send)
