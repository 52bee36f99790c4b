mod Alls
mod Runs
mod Findings
mod Derived
mod Deriving
mod Rules
