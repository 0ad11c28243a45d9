-- Names of node kinds. The whole list, with what each kind's operands hold, is in crate table.
use Rattle.std.specs.Prelude.{ℕ}

abbrev pub idle : ℕ
idle = 0

abbrev pub tick : ℕ
tick = 1

abbrev pub set_attribute : ℕ
set_attribute = 2

abbrev pub set_stigmergy : ℕ
set_stigmergy = 3

abbrev pub set_environment : ℕ
set_environment = 4

abbrev pub sequence : ℕ
sequence = 5

abbrev pub choice : ℕ
choice = 6

abbrev pub guarded : ℕ
guarded = 7

abbrev pub parallel : ℕ
parallel = 8

abbrev pub call : ℕ
call = 9

abbrev pub true : ℕ
true = 16

abbrev pub equal : ℕ
equal = 17

abbrev pub less : ℕ
less = 18

abbrev pub greater : ℕ
greater = 19

abbrev pub not : ℕ
not = 20

abbrev pub and : ℕ
and = 21

abbrev pub or : ℕ
or = 22

abbrev pub constant : ℕ
constant = 32

abbrev pub attribute : ℕ
attribute = 33

abbrev pub stigmergy : ℕ
stigmergy = 34

abbrev pub environment : ℕ
environment = 35

abbrev pub plus : ℕ
plus = 36

abbrev pub minus : ℕ
minus = 37

abbrev pub times : ℕ
times = 38

abbrev pub divide : ℕ
divide = 39

abbrev pub remainder : ℕ
remainder = 40

abbrev pub root : ℕ
root = 64
