-- The balances of a bank, and what orders make of them.
use Rattle.std.specs.Prelude.{ℕ, ◌+◌, ◌-◌, nat_le, if◌then◌else◌, List, [], ◌∷◌, Option, Some, None, slice_get, slice_set}
use Rattle.share_bank.specs.declared.bank.Change.{Change}
use Rattle.share_bank.specs.declared.bank.Change.TheVariants.{Deposit, Withdraw, Look}
use Rattle.share_bank.specs.declared.bank.Order.{Order}

-- a bank opens with two accounts, and nothing on them
abbrev pub opening : List ℕ
opening = 0 ∷ 0 ∷ []

-- the balance that a change leaves, or none where it is refused: a balance is a u64, and never below 0
abbrev pub left_of : ℕ → Change → Option ℕ
left_of balance (Deposit amount) = if nat_le (balance + amount) 18446744073709551615 then Some (balance + amount) else None
left_of balance (Withdraw amount) = if nat_le amount balance then Some (balance - amount) else None
left_of balance Look = Some balance

abbrev pub left_where : Option ℕ → Change → Option ℕ
left_where None change = None
left_where (Some balance) change = left_of balance change

-- what an order is answered: the balance that it leaves, or none where it is refused or there is no such account
abbrev pub answer_to : List ℕ → Order → Option ℕ
answer_to balances order = left_where (slice_get balances order.account) order.change

abbrev pub with_balance : List ℕ → ℕ → Option ℕ → List ℕ
with_balance balances account None = balances
with_balance balances account (Some balance) = slice_set balances account balance

-- the balances after an order
abbrev pub after : List ℕ → Order → List ℕ
after balances order = with_balance balances order.account (answer_to balances order)

-- the balances after these orders, one after the other
abbrev pub balances_after : List ℕ → List Order → List ℕ
balances_after balances [] = balances
balances_after balances (order ∷ orders) = balances_after (after balances order) orders
