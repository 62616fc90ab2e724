-- The fault of a run by that of an operation (`fault_of`).
-- From: own.
-- Example: want of memory is want of memory.
use Rattle.import_lock.specs.declared.state.OpFault.{OpFault}
use Rattle.import_lock.specs.declared.state.OpFault.TheVariants as ops
use Rattle.sys_threads.specs.declared.fault.RunFault.{RunFault}
use Rattle.sys_threads.specs.declared.fault.RunFault.TheVariants as runs

abbrev pub fault_of : OpFault → RunFault
fault_of (ops.Ended head) = runs.Ended head
fault_of ops.Memory = runs.Memory
