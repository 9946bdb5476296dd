pub mod Licences
