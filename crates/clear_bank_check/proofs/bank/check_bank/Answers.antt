use Rattle.clear_bank_check.proofs.BankCheckLemmas.{told}
use Rattle.clear_bank_check.proofs.bank.check_bank.Goals as goal

pub returns-in_ok-fault_text-in-Err-clause-tells : goal.returns-in_ok-fault_text-in-Err-clause-tells
returns-in_ok-fault_text-in-Err-clause-tells c = told c.args.bytes.now _ c.in-Err.fault _ c.in-Err.ensures c.in_ok-fault_text-in-Err.ensures.known c.in_ok-fault_text-in-Err.ensures.tells
