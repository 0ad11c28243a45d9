-- What a refusal in code is: the paper's number and place for each.
use Rattle.std.specs.Prelude.{Result, Ok, Err}
use Rattle.table.specs.Checks.{Check, passes, refuses}
use Rattle.table.specs.declared.refusals.Refused.{Refused}
use Rattle.table.specs.declared.refusals.Refused.TheVariants.{TableShort, SizeOutsideLimits, TableLength, BadNode, WrongParty, ExposedCall, NodeDerivations, BufferLength, StateNotWellFormed, StepOutOfRange, KeysPending, ResidualDerivations, NoSuchChoice, GuardFails, ExpressionAbsent, ClockAtEnd, ResidualTooLong, KeyNotInSet, ScheduleLength, AnswersShort, NoSuchName, ShelfFull}

abbrev pub check_of : Refused → Check
check_of TableShort = refuses 1 0
check_of SizeOutsideLimits = refuses 2 0
check_of TableLength = refuses 3 0
check_of (BadNode place) = refuses 4 place
check_of (WrongParty place) = refuses 5 place
check_of (ExposedCall place) = refuses 6 place
check_of (NodeDerivations place) = refuses 7 place
check_of BufferLength = refuses 8 0
check_of StateNotWellFormed = refuses 9 0
check_of StepOutOfRange = refuses 10 0
check_of KeysPending = refuses 11 0
check_of ResidualDerivations = refuses 12 0
check_of NoSuchChoice = refuses 13 0
check_of GuardFails = refuses 14 0
check_of ExpressionAbsent = refuses 15 0
check_of ClockAtEnd = refuses 16 0
check_of ResidualTooLong = refuses 17 0
check_of KeyNotInSet = refuses 18 0
check_of ScheduleLength = refuses 19 0
check_of AnswersShort = refuses 20 0
check_of NoSuchName = refuses 21 0
check_of ShelfFull = refuses 22 0

-- what a call answers: it is done, or refused
abbrev pub result_check : {A : Type 0} → Result A Refused → Check
result_check (Ok x) = passes
result_check (Err e) = check_of e
