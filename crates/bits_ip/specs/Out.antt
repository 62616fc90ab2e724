-- What appending text keeps (`Kept`): what followed a first state of a sink still does behind
-- another piece. For the writers' contracts.
-- From: own.

-- what follows a first state still does
abbrev pub Kept : {S : Type 0} → (S → S → Type 0) → S → S → Type 0
Kept {S} follows old new = (first : S) → follows first old → follows first new
