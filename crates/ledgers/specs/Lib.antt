-- A ledger of committed values.
pub mod Lines
pub mod Refusals
pub mod Ledger
pub mod Check
pub mod Write
pub mod LedgerCalls
pub mod Meaning
pub mod Used
pub mod LedgerHolds
pub mod RunsWhere
pub mod Same
pub mod Ours
