pub mod Totaling
