pub mod RecoveryCases
