pub mod ShownNames
