-- Where the fields of a message begin among its 64 bytes; src/lib.rt has the same for code.
-- 01: "0 kind; 1 sender; 2 receiver; 3 zero; 4-19 stamp; 20-35 values; 36-39 cost; 40-43 bound; 44-59 best lotting; 60-61 zero; 62-63 check" Assumes nothing.
use Rattle.std.specs.Prelude.{ℕ}

abbrev pub stamp_byte : ℕ
stamp_byte = 4

abbrev pub values_byte : ℕ
values_byte = 20

abbrev pub cost_byte : ℕ
cost_byte = 36

abbrev pub bound_byte : ℕ
bound_byte = 40

abbrev pub best_byte : ℕ
best_byte = 44

abbrev pub zero_byte : ℕ
zero_byte = 60

abbrev pub check_byte : ℕ
check_byte = 62
